-- Changes of the table.
use Rattle.std.specs.Prelude.{◌≡◌, ℕ, ◌<◌, Bool, true, false, List, [], Option, Some, None, is_some, option_map, unwrap_or, vec_len, vec_capacity}
use Rattle.std.specs.HashMap.{get, hash_map_len, spare}
use Rattle.news_types.specs.declared.command.Command.{Command}
use Rattle.news_types.specs.declared.command.Command.TheVariants as command
use Rattle.news_types.specs.Names.{Bytes, same}
use Rattle.news_types.specs.History.{History}
use Rattle.news_types.specs.Products.{Product, Subscriber, product, subscriber}
use Rattle.products.specs.declared.table.KeptSubscriber.{KeptSubscriber}
use Rattle.products.specs.declared.table.Terms.{Terms}
use Rattle.products.specs.declared.table.Products.{Products}
use Rattle.products.specs.Keeps.{terms_of}
use Rattle.products.specs.declared.change.Step.{Step}
use Rattle.products.specs.declared.change.Step.TheVariants.{AddProduct, SetProduct, AddSubscriber, SetSubscriber, Nothing}
use Rattle.products.specs.declared.change.ProductChange.{ProductChange}
use Rattle.products.specs.Asked.{is_asked}

-- what is kept of a subscriber that is there, behind a setting that gives it a lag or none
abbrev pub Sets : KeptSubscriber → Option ℕ → Option Subscriber → Type 0
Sets kept lag None = ⊥
Sets kept lag (Some s) = (kept.format ≡ s.format) × (kept.lag ≡ unwrap_or lag s.lag)

-- the step is that of the command: what it adds is not there, and what it sets is there
abbrev pub IsStep : Step → Command → (Bytes → Option Product) → (Bytes → Option Subscriber) → Type 0
IsStep (AddProduct name kept) given product subscriber = (given ≡ command.AddProduct name kept.how kept.filter) × (product name ≡ None)
IsStep (SetProduct name kept) given product subscriber = (given ≡ command.SetProduct name kept.how kept.filter) × (is_some (product name) ≡ true)
IsStep (AddSubscriber name kept) given product subscriber =
    (given ≡ command.AddSubscriber name kept.format kept.products kept.lag) × (kept.active ≡ true) × (kept.off ≡ []) × (subscriber name ≡ None)
IsStep (SetSubscriber name kept) given product subscriber =
    (lag : Option ℕ) × (given ≡ command.SetSubscriber name kept.active kept.products kept.off lag) × Sets kept lag (subscriber name)
IsStep Nothing given product subscriber = is_asked given ≡ false

-- what is kept of a subscriber beside what a setting gives
abbrev pub kept_terms : Products → Bytes → Option Terms
kept_terms t name = option_map terms_of (get same t.subscribers name)

abbrev pub set_step : Option Terms → Bytes → Bool → List Bytes → List Bytes → Option ℕ → Step
set_step None name active products off lag = Nothing
set_step (Some terms) name active products off lag = SetSubscriber name (record { format = terms.format; active = active; products = products; off = off; lag = unwrap_or lag terms.lag })

-- another setting of a subscriber: the format stays, and so does the lag where none is given
abbrev pub other_step : Products → Bytes → Bool → List Bytes → List Bytes → Option ℕ → Step
other_step t name active products off lag = set_step (kept_terms t name) name active products off lag

-- the change is that of the command, which the list allows
pub record IsFor (change : ProductChange) (given : Command) (h : History) : Type 0 where
  pub step : IsStep change.step given (product h) (subscriber h)

-- the tables keep the same
pub record IsAlike (t r : Products) : Type 0 where
  pub products : (name : Bytes) → get same r.products name ≡ get same t.products name
  pub count : hash_map_len r.products ≡ hash_map_len t.products
  pub subscribers : (name : Bytes) → get same r.subscribers name ≡ get same t.subscribers name
  pub names : r.names.items ≡ t.names.items

-- the table has the memory for the step
abbrev pub HasRoomFor : Products → Step → Type 0
HasRoomFor t (AddProduct name kept) = 0 < spare t.products
HasRoomFor t (SetProduct name kept) = 0 < spare t.products
HasRoomFor t (AddSubscriber name kept) = (0 < spare t.subscribers) × (vec_len t.names < vec_capacity t.names)
HasRoomFor t (SetSubscriber name kept) = 0 < spare t.subscribers
HasRoomFor t Nothing = Unit {0}

-- the table has the memory for the change
pub record HasRoom (t : Products) (change : ProductChange) : Type 0 where
  pub room : HasRoomFor t change.step
