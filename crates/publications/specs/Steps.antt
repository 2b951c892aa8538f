-- What changes do to publications, and to the table.
use Rattle.std.specs.Prelude.{◌≡◌, ◌<◌, ℕ, false, List, ◌∷◌, Option, None, Some, option_map, vec_len, vec_capacity}
use Rattle.std.specs.HashMap.{spare}
use Rattle.news_types.specs.Names.{Bytes}
use Rattle.news_types.specs.Due.{Pub, standing_first, had, withdrawn, taken_back}
use Rattle.publications.specs.declared.table.Published.{Published}
use Rattle.publications.specs.declared.table.OfItem.{OfItem}
use Rattle.publications.specs.declared.table.Publications.{Publications}
use Rattle.publications.specs.declared.change.Step.{Step}
use Rattle.publications.specs.declared.change.Step.TheVariants.{Publish, Withdraw, Nothing}
use Rattle.publications.specs.declared.change.PublicationChange.{PublicationChange}
use Rattle.publications.specs.Numbers.{HasPlace}
use Rattle.publications.specs.Keeps.{Tells, shown, first_of, shown_first}

-- what stands behind a publication of the item: all, or, of a kill or a recall at the moment, what that leaves
abbrev pub left_by : Option ℕ → ℕ → List Pub → List Pub
left_by None i st = st
left_by (Some m) i st = taken_back m i st

-- one is published: with it this is what stands of its item
pub record Publishes (number : ℕ) (row : Published) (of : OfItem) (ps st after_ps after_st : List Pub) : Type 0 where
  pub p : Pub
  pub taken : Option ℕ
  pub is_number : number ≡ p.number
  pub all : after_ps ≡ p ∷ ps
  pub stands : after_st ≡ p ∷ left_by taken p.item st
  pub shows : row ≡ shown p
  pub first : Some (first_of of) ≡ option_map shown_first (standing_first p.item (p ∷ left_by taken p.item st))
  pub due : Tells of.soonest.items of.newest.items (p ∷ left_by taken p.item st) p.item

-- the first publication of an item is withdrawn, and then nothing stands of it
pub record Withdraws (i : ℕ) (ps st after_ps after_st : List Pub) : Type 0 where
  pub all : after_ps ≡ ps
  pub stands : after_st ≡ withdrawn i st
  pub none : (s : Bytes) → had (withdrawn i st) i s ≡ false

pub record Stays (ps st after_ps after_st : List Pub) : Type 0 where
  pub all : after_ps ≡ ps
  pub stands : after_st ≡ st

-- the publications behind a step
abbrev pub Leads : Step → List Pub → List Pub → List Pub → List Pub → Type 0
Leads (Publish number row of) ps st after_ps after_st = Publishes number row of ps st after_ps after_st
Leads (Withdraw i) ps st after_ps after_st = Withdraws i ps st after_ps after_st
Leads Nothing ps st after_ps after_st = Stays ps st after_ps after_st

-- the table has the memory for the step
abbrev pub HasRoomFor : Publications → Step → Type 0
HasRoomFor t (Publish number row of) = (vec_len t.rows < vec_capacity t.rows) × (0 < spare t.firsts) × HasPlace t.numbers row.item
HasRoomFor t (Withdraw i) = Unit {0}
HasRoomFor t Nothing = Unit {0}

-- the table has the memory for the change
pub record HasRoom (t : Publications) (change : PublicationChange) : Type 0 where
  pub room : HasRoomFor t change.step

-- the change leads from these publications to those
pub record IsFor (change : PublicationChange) (ps st after_ps after_st : List Pub) : Type 0 where
  pub leads : Leads change.step ps st after_ps after_st
