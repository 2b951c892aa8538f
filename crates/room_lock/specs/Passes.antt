-- What a clause says of a turn.
use Rattle.std.specs.Prelude.{◌≡◌, ℕ, ◌≤◌, ◌++◌, ◌∷◌, List, [], length, take}
use mathlib.Core.List.{IsPrefix}
use Rattle.news_types.specs.declared.entry.Entry.{Entry}
use Rattle.news_types.specs.Books.{Book, onto}
use Rattle.room_lock.specs.declared.view.Call.{Call}

-- a book, and beside it the count of faults and the size of the value that stands for it
pub record At : Type 0 where
  pub book : Book
  pub faults : ℕ
  pub used : ℕ

abbrev pub at : Book → ℕ → ℕ → At
at book faults used = record { book = book; faults = faults; used = used }

-- what the turn of this call found, by what is seen now: the book of the start, with the first `from` of the entries seen
abbrev pub found_by : Call → Book → List Entry → At
found_by c b seen = at (onto (take c.from seen) b) c.faults c.used

-- and what it left
abbrev pub left_by : Call → Book → List Entry → At
left_by c b seen = at (onto (take c.to seen) b) c.later_faults c.later_used

-- one call more, which found at least all that had been seen, and left what is seen now
abbrev pub IsTurn : List Entry → List Call → List Entry → List Call → Call → Type 0
IsTurn seen calls seen' calls' c = (calls' ≡ calls ++ c ∷ []) × IsPrefix seen seen' × (length seen ≤ c.from) × (c.from ≤ c.to) × (c.to ≡ length seen')

-- the value that the turn of this call was lent stood for what the call found, and stands as it was left for what the call left. The numbers beside the call are its own
pub record Lent {T : Type 0} (stands : T → Book → Type 0) (faults used : T → ℕ) (start : Book → Type 0) (seen : List Entry) (c : Call) : Type 0 where
  pub found : T
  pub left : T
  pub before : (b : Book) → start b → stands found (onto (take c.from seen) b)
  pub after : (b : Book) → start b → stands left (onto (take c.to seen) b)
  pub faults_is : c.faults ≡ faults found
  pub used_is : c.used ≡ used found
  pub later_faults_is : c.later_faults ≡ faults left
  pub later_used_is : c.later_used ≡ used left

-- what each of some calls found and left, by what is seen now
abbrev pub pairs : Book → List Entry → List Call → List (At × At)
pairs b seen [] = []
pairs b seen (c ∷ cs) = (found_by c b seen, left_by c b seen) ∷ pairs b seen cs
