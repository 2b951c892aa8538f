-- Which items the table keeps.
use Rattle.std.specs.Prelude.{◌≡◌, List, map, unwrap_or}
use Rattle.std.specs.HashMap.{get}
use Rattle.news_types.specs.Names.{Bytes}
use Rattle.news_types.specs.History.{History}
use Rattle.news_types.specs.Items.{Item, known}
use Rattle.news_types.specs.Publications.{made}
use Rattle.item_table.specs.declared.table.Items.{Items}
use Rattle.item_table.specs.Identities.{same_identity, identity_of}
use Rattle.item_table.specs.Rows.{row_of}

-- the table keeps the state, the version, the story and the making of each of these items, and the number of what each provider calls one
pub record Keeps (t : Items) (items : List Item) : Type 0 where
  pub rows : t.rows.items ≡ map row_of items
  pub numbers : (provider text : Bytes) → unwrap_or (get same_identity t.numbers (identity_of provider text)) 0 ≡ known provider text items

-- the table keeps the items of the list
abbrev pub KeepsFacts : Items → History → Type 0
KeepsFacts t h = Keeps t ((made h).items)
