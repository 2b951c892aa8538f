-- Which slots are those of whom something is due to.
use Rattle.std.specs.Prelude.{◌≡◌, ℕ, List, Option, Some, None}
use Rattle.news_types.specs.declared.query.Due.{Due}
use Rattle.news_types.specs.Names.{Bytes}
use Rattle.news_types.specs.Due.{release_to}
use Rattle.desk_records.specs.declared.slots.Slot.{Slot}
use Rattle.desk_records.specs.declared.slots.Slot.TheVariants.{NotDue}
use Rattle.desk_records.specs.Slots.{slot_at, slot_of, after_due, changed_at}
use Rattle.desk_records.specs.Dues.{place_of}

-- of one with a place the slot of its release; others have none
abbrev pub known_slot : Option ℕ → Option ℕ → Slot
known_slot None release = NotDue
known_slot (Some place) release = slot_of release

-- they say to whom of these names it is due
abbrev pub Fills : List Slot → List Due → List Bytes → Type 0
Fills slots due names = (s : Bytes) → slot_at slots (place_of s names) ≡ known_slot (place_of s names) (release_to s due)

-- due at the place too, if there is one
abbrev pub marked : Option ℕ → ℕ → List Slot → List Slot
marked None release slots = slots
marked (Some place) release slots = changed_at place (after_due release) slots
