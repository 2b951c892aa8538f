-- What changes do to the items, and to the table.
use Rattle.std.specs.Prelude.{◌≡◌, ◌<◌, ℕ, Bool, false, List, [], ◌∷◌, ◌++◌, Option, Some, None, vec_len, vec_capacity}
use Rattle.std.specs.HashMap.{get, spare}
use Rattle.news_types.specs.Names.{Bytes}
use Rattle.news_types.specs.Items.{Item, changed, item_numbered, known, is_from}
use Rattle.item_table.specs.declared.identity.Identity.{Identity}
use Rattle.item_table.specs.declared.row.Row.{Row}
use Rattle.item_table.specs.declared.change.Step.{Step}
use Rattle.item_table.specs.declared.change.Step.TheVariants.{Make, Set, Nothing}
use Rattle.item_table.specs.declared.change.ItemChange.{ItemChange}
use Rattle.item_table.specs.declared.table.Items.{Items}
use Rattle.item_table.specs.Identities.{same_identity, identity_of}
use Rattle.item_table.specs.Rows.{row_of, set_to}

-- a new item is called that, or nothing; no other is
abbrev pub IsCalled : Option Identity → Item → List Item → Type 0
IsCalled None it before = (provider text : Bytes) → is_from provider text it.origin ≡ false
IsCalled (Some key) it before = ((provider text : Bytes) → is_from provider text it.origin ≡ same_identity key (identity_of provider text)) × (known key.provider key.text before ≡ 0)

-- an item is made
pub record Makes (made : Row) (key : Option Identity) (before after : List Item) : Type 0 where
  pub it : Item
  pub behind : after ≡ before ++ it ∷ []
  pub row : made ≡ row_of it
  pub called : IsCalled key it before

-- the item of that number is changed, and what it is called stays
pub record Sets (i : ℕ) (set : Row → Row) (before after : List Item) : Type 0 where
  pub change : Item → Item
  pub behind : after ≡ changed i change before
  pub row : (it : Item) → item_numbered before i ≡ Some it → row_of (change it) ≡ set (row_of it)
  pub called : (it : Item) → item_numbered before i ≡ Some it → (provider text : Bytes) → is_from provider text (change it).origin ≡ is_from provider text it.origin

-- the items behind a step
abbrev pub Leads : Step → List Item → List Item → Type 0
Leads (Make row key) before after = Makes row key before after
Leads (Set i to) before after = Sets i (set_to to) before after
Leads Nothing before after = after ≡ before

abbrev pub HasPlace : Items → Option Identity → Type 0
HasPlace t None = Unit {0}
HasPlace t (Some key) = 0 < spare t.numbers

-- the table has the memory for the step
abbrev pub HasRoomFor : Items → Step → Type 0
HasRoomFor t (Make row key) = (vec_len t.rows < vec_capacity t.rows) × HasPlace t key
HasRoomFor t (Set i to) = Unit {0}
HasRoomFor t Nothing = Unit {0}

-- the table has the memory for the change
pub record HasRoom (t : Items) (change : ItemChange) : Type 0 where
  pub room : HasRoomFor t change.step

-- the change leads from these items to those
pub record IsFor (change : ItemChange) (before after : List Item) : Type 0 where
  pub leads : Leads change.step before after

-- the tables keep the same
pub record IsAlike (t r : Items) : Type 0 where
  pub rows : r.rows.items ≡ t.rows.items
  pub numbers : (key : Identity) → get same_identity r.numbers key ≡ get same_identity t.numbers key
