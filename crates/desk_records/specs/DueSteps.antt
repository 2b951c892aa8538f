-- What entries do to what is due, and to the table of dues.
use Rattle.std.specs.Prelude.{◌≡◌, ◌<◌, ℕ, true, false, List, ◌∷◌, length, vec_len, vec_capacity}
use Rattle.std.specs.HashMap.{spare}
use Rattle.news_types.specs.declared.query.Due.{Due}
use Rattle.news_types.specs.Names.{Bytes, is_in}
use Rattle.news_types.specs.Members.{Each}
use Rattle.news_types.specs.History.{History}
use Rattle.news_types.specs.Products.{subscribers}
use Rattle.news_types.specs.Due.{Pub, is_first, release_to, withdrawn, taken_back}
use Rattle.news_types.specs.Publications.{pubs, standing}
use Rattle.publications.specs.Numbers.{numbers_of}
use Rattle.desk_records.specs.declared.dues.Dues.{Dues}
use Rattle.desk_records.specs.declared.slots.Slot.{Slot}
use Rattle.desk_records.specs.declared.due_change.Step.{Step}
use Rattle.desk_records.specs.declared.due_change.Step.TheVariants.{Add, Publish, TakeBack, Withdraw, Nothing}
use Rattle.desk_records.specs.declared.due_change.DueChange.{DueChange}
use Rattle.desk_records.specs.Fills.{Fills}

-- ---- what an entry does, from one list to the next

-- a subscriber is added
pub record AddsSubscriber (name : Bytes) (h g : History) : Type 0 where
  pub is_new : is_in name (subscribers h) ≡ false
  pub subscribers : subscribers g ≡ name ∷ subscribers h
  pub pubs : pubs g ≡ pubs h
  pub standing : standing g ≡ standing h

-- a first publication or a correction is made, due to these
pub record Publishes (due : List Due) (h g : History) : Type 0 where
  pub p : Pub
  pub releases : (s : Bytes) → release_to s p.due ≡ release_to s due
  pub subscribers : subscribers g ≡ subscribers h
  pub pubs : pubs g ≡ p ∷ pubs h
  pub standing : standing g ≡ p ∷ standing h

-- a kill or a recall at the moment is made, due to these, of the item with publications of these numbers
pub record TakesBack (due : List Due) (numbers : List ℕ) (m : ℕ) (h g : History) : Type 0 where
  pub p : Pub
  pub releases : (s : Bytes) → release_to s p.due ≡ release_to s due
  pub of_item : numbers ≡ numbers_of p.item (pubs h)
  pub subscribers : subscribers g ≡ subscribers h
  pub pubs : pubs g ≡ p ∷ pubs h
  pub standing : standing g ≡ p ∷ taken_back m p.item (standing h)

-- the first publication of the item with publications of these numbers is withdrawn, and nothing else of it stands
pub record Withdraws (numbers : List ℕ) (h g : History) : Type 0 where
  pub item : ℕ
  pub of_item : numbers ≡ numbers_of item (pubs h)
  pub firsts : Each (λ (p : Pub). p.item ≡ item → is_first p.kind ≡ true) (standing h)
  pub subscribers : subscribers g ≡ subscribers h
  pub pubs : pubs g ≡ pubs h
  pub standing : standing g ≡ withdrawn item (standing h)

-- nothing is added, made or withdrawn
pub record Stays (h g : History) : Type 0 where
  pub subscribers : subscribers g ≡ subscribers h
  pub pubs : pubs g ≡ pubs h
  pub standing : standing g ≡ standing h

-- ---- what a change does

-- these slots, one for each subscriber, say to whom it is due
pub record HasSlots (slots : List Slot) (due : List Due) (h : History) : Type 0 where
  pub len : length slots ≡ length (subscribers h)
  pub fills : Fills slots due (subscribers h)

-- the lists behind a step
abbrev pub Leads : Step → History → History → Type 0
Leads (Add name) h g = AddsSubscriber name h g
Leads (Publish slots) h g = (due : List Due) × HasSlots slots.items due h × Publishes due h g
Leads (TakeBack slots numbers m) h g = (due : List Due) × HasSlots slots.items due h × TakesBack due numbers.items m h g
Leads (Withdraw numbers) h g = Withdraws numbers.items h g
Leads Nothing h g = Stays h g

-- the change leads from this list to that
pub record IsForDues (change : DueChange) (h g : History) : Type 0 where
  pub leads : Leads change.step h g

-- the table has the memory for the step
abbrev pub HasRoomFor : Dues → Step → Type 0
HasRoomFor t (Add name) = 0 < spare t.places
HasRoomFor t (Publish slots) = vec_len t.rows < vec_capacity t.rows
HasRoomFor t (TakeBack slots numbers m) = vec_len t.rows < vec_capacity t.rows
HasRoomFor t (Withdraw numbers) = Unit {0}
HasRoomFor t Nothing = Unit {0}

-- the table has the memory for the change
pub record HasDueRoom (t : Dues) (change : DueChange) : Type 0 where
  pub room : HasRoomFor t change.step
