-- What is kept of publications for subscribers.
use Rattle.std.specs.Prelude.{ℕ, zero, suc, ◌-◌, ◌==◌, Bool, false, nat_lt, List, [], ◌∷◌, length, map, Option, Some, None, slice_get, if◌then◌else◌}
use Rattle.std.specs.List.{list_any}
use Rattle.std.specs.Option.{option_map}
use Rattle.desk_records.specs.declared.slots.Slot.{Slot}
use Rattle.desk_records.specs.declared.slots.Slot.TheVariants.{NotDue, Due, TakenBack}
use Rattle.desk_records.specs.declared.rows.Row.{Row}
use Rattle.desk_records.specs.declared.dues.DueFact.{DueFact}

-- ---- one slot

-- the release with which it was made due
abbrev pub made_in : Slot → Option ℕ
made_in NotDue = None
made_in (Due release) = Some release
made_in (TakenBack release) = Some release

-- that release, if it is not taken back
abbrev pub left_in : Slot → Option ℕ
left_in NotDue = None
left_in (Due release) = Some release
left_in (TakenBack release) = None

-- of one that is due with the release, or is not due
abbrev pub slot_of : Option ℕ → Slot
slot_of None = NotDue
slot_of (Some release) = Due release

-- behind one more that is due: the first counts
abbrev pub after_due : ℕ → Slot → Slot
after_due release NotDue = Due release
after_due release slot = slot

-- behind a kill or a recall at the moment
abbrev pub after_kill : ℕ → Slot → Slot
after_kill m (Due release) = if nat_lt m release then TakenBack release else Due release
after_kill m slot = slot

-- ---- the slots of a publication

-- the slot at a place, if there is one
abbrev pub in_slot : Option Slot → Slot
in_slot None = NotDue
in_slot (Some slot) = slot

abbrev pub slot_at : List Slot → Option ℕ → Slot
slot_at slots None = NotDue
slot_at slots (Some place) = in_slot (slice_get slots place)

-- the member at a place, from 0, changed
abbrev pub changed_at : {A : Type 0} → ℕ → (A → A) → List A → List A
changed_at i change [] = []
changed_at zero change (x ∷ xs) = change x ∷ xs
changed_at (suc i) change (x ∷ xs) = x ∷ changed_at i change xs

-- ---- a publication

-- it was not withdrawn, and its slots
pub record Told : Type 0 where
  pub stands : Bool
  pub slots : List Slot

abbrev pub told : Row → Told
told row = record { stands = row.stands; slots = row.slots.items }

-- behind a kill or a recall at the moment
abbrev pub killed : ℕ → Told → Told
killed m t = record { stands = t.stands; slots = map (after_kill m) t.slots }

abbrev pub withdrawn : Told → Told
withdrawn t = record { stands = false; slots = t.slots }

-- what it is to one with that slot
abbrev pub fact_by : Bool → Slot → Option DueFact
fact_by stands NotDue = None
fact_by stands (Due release) = Some (record { release = release; stands = stands })
fact_by stands (TakenBack release) = Some (record { release = release; stands = false })

-- to the subscriber at a place
abbrev pub fact_in : Told → ℕ → Option DueFact
fact_in t place = fact_by t.stands (slot_at t.slots (Some place))

-- ---- publications by their numbers, from 1

abbrev pub row_at : List Row → ℕ → Option Row
row_at rows n = if n == 0 then None else slice_get rows (n - 1)

abbrev pub told_at : List Row → ℕ → Option Told
told_at rows n = option_map told (row_at rows n)

-- the release of a publication for the one at a place, as it was made
abbrev pub made_at : Option Told → Option ℕ → Option ℕ
made_at None place = None
made_at (Some t) place = made_in (slot_at t.slots place)

-- and as it stands
abbrev pub left_at : Option Told → Option ℕ → Option ℕ
left_at None place = None
left_at (Some t) place = if t.stands then left_in (slot_at t.slots place) else None

abbrev pub is_standing : Option Told → Bool
is_standing None = false
is_standing (Some t) = t.stands

-- for how many subscribers it has a slot
abbrev pub width : Option Told → ℕ
width None = 0
width (Some t) = length t.slots

-- the number is one of these
abbrev pub is_among : ℕ → List ℕ → Bool
is_among n numbers = list_any (λ (k : ℕ). k == n) numbers
