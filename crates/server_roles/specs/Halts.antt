-- Halts, one after another.
use Rattle.std.specs.Prelude.{◌≡◌, ℕ, Bool, true, false, List, [], ◌∷◌, ◌++◌, map}
use Rattle.news_types.specs.declared.entry.Entry.{Entry}
use Rattle.news_types.specs.Books.{onto}
use Rattle.news_types.specs.Calls as call
use Rattle.news_types.specs.Members.{Each}
use Rattle.news_room.specs.Said.{said_tick}
use Rattle.news_room.specs.Steps.{HaltStep}
use Rattle.news_room.specs.declared.answers.Ticked.{Ticked}
use Rattle.room_lock.specs.Passes.{At}
use Rattle.room_lock.specs.declared.view.Call.{Call}
use Rattle.shared_workers.specs.Steps.{of_turn, IsCall}

-- A halt at a reading of the clock, by what its turn found and left: what was answered and kept is its step, and the turn is an event of the world.
pub record HaltedBy (now : ℕ) (before : At) (ticked : Ticked) (after : At) : Type 0 where
  pub more : List Entry
  pub book_is : after.book ≡ onto more before.book
  pub step : HaltStep (of_turn before after) before.book now more ticked
  pub event : IsCall before after call.Halted now (said_tick ticked)

-- a halt that was tried, and in which call of the lock
pub record Halted : Type 0 where
  pub reading : ℕ
  pub ticked : Ticked
  pub call : Call

abbrev pub halted : ℕ → Ticked → Call → Halted
halted reading ticked c = record { reading = reading; ticked = ticked; call = c }

abbrev pub halted_calls : Halted → List Call
halted_calls h = h.call ∷ []

abbrev pub halted_holds : Halted → List (At × At) → Type 0
halted_holds h turns = (t : At × At) × (turns ≡ t ∷ []) × HaltedBy h.reading t.0 h.ticked t.1

abbrev pub reading_of : Halted → ℕ
reading_of h = h.reading

abbrev pub halt_readings : List Halted → List ℕ
halt_readings halts = map reading_of halts

-- ---- which is kept

abbrev pub is_kept : Ticked → Bool
is_kept (Ticked.Kept place) = true
is_kept Ticked.Still = false
is_kept Ticked.Fault = false
is_kept (Ticked.Full size count) = false

abbrev pub NotKept : Halted → Type 0
NotKept h = is_kept h.ticked ≡ false

-- the last of them is kept, and no other
pub record LastKept (halts : List Halted) : Type 0 where
  pub before : List Halted
  pub last : Halted
  pub are : halts ≡ before ++ last ∷ []
  pub fail : Each NotKept before
  pub kept : is_kept last.ticked ≡ true
