-- What a role did, one step after another. A step has some calls, and says something of what these found and left.
use Rattle.std.specs.Prelude.{◌≡◌, List, [], ◌∷◌, ◌++◌, length}
use mathlib.Core.List.{IsPrefix}
use Rattle.news_types.specs.declared.entry.Entry.{Entry}
use Rattle.news_types.specs.Books.{Book}
use Rattle.room_lock.specs.declared.view.Call.{Call}
use Rattle.room_lock.specs.Calls.{InOrder}
use Rattle.room_lock.specs.Passes.{At, pairs}

module _ {S : Type 0} (calls_in : S → List Call) where
  -- the calls of some steps, in order
  abbrev pub calls_all : List S → List Call
  calls_all [] = []
  calls_all (s ∷ ss) = calls_in s ++ calls_all ss

  module _ (holds : S → List (At × At) → Type 0) where
    -- each step is true of what its calls found and left, by what is seen now
    abbrev pub AllHold : Book → List Entry → List S → Type 0
    AllHold b seen [] = Unit {0}
    AllHold b seen (s ∷ ss) = holds s (pairs b seen (calls_in s)) × AllHold b seen ss

    -- The role went these steps, from one front and calls to others. Its calls stand behind those that it had, and found at least all that it had seen
    pub record Went (stands : Book → Type 0) (seen : List Entry) (calls : List Call) (seen' : List Entry) (calls' : List Call) (ss : List S) : Type 0 where
      pub calls_are : calls' ≡ calls ++ calls_all ss
      pub grows : IsPrefix seen seen'
      pub order : InOrder (length seen) (calls_all ss) (length seen')
      pub did : (b : Book) → stands b → AllHold b seen' ss
