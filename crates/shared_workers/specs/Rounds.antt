-- What a worker did in one round: the calls of the lock that it made, its readings of the clock, and what passed over its link.
use Rattle.std.specs.Prelude.{◌≡◌, ℕ, Bool, true, false, List, [], ◌∷◌}
use Rattle.news_types.specs.Names.{Bytes}
use Rattle.news_io.specs.Link.{Passed}
use Rattle.room_lock.specs.Passes.{At}
use Rattle.room_lock.specs.declared.view.Call.{Call}
use Rattle.publish_workers.specs.Turns.{Turn, word, is_link_fault, frames_of, replies_of, passed_of, readings}
use Rattle.shared_workers.specs.declared.works.Step.{Step}
use Rattle.shared_workers.specs.declared.worker.WorkerTurn.{WorkerTurn}
use Rattle.shared_workers.specs.Steps.{Took}
use Rattle.shared_workers.specs.Exchanges.{Exchanged}

-- what was done
pub data Deed : Type 0 where
  -- at a reading of the clock a stop was found at this place
  Stop : ℕ → ℕ → Deed
  -- none was found, and a turn was made
  Work : Turn → Deed

-- and in which calls of the lock
pub record Round : Type 0 where
  pub deed : Deed
  pub calls : List Call

abbrev pub round : Deed → List Call → Round
round deed calls = record { deed = deed; calls = calls }

-- ---- what is answered

abbrev pub answer_of : Deed → WorkerTurn
answer_of (Stop reading place) = WorkerTurn.Stopping place
answer_of (Work t) = WorkerTurn.Worked (word t)

-- a stop was found
abbrev pub is_stopping : WorkerTurn → Bool
is_stopping (WorkerTurn.Stopping place) = true
is_stopping (WorkerTurn.Worked worked) = false

-- the link has failed
abbrev pub is_link_lost : WorkerTurn → Bool
is_link_lost (WorkerTurn.Stopping place) = false
is_link_lost (WorkerTurn.Worked worked) = is_link_fault worked

-- ---- readings, frames and replies, each frame and reply with its subscriber

abbrev pub deed_readings : Deed → List ℕ
deed_readings (Stop reading place) = reading ∷ []
deed_readings (Work t) = readings t

abbrev pub deed_frames : Deed → List (Bytes × Bytes)
deed_frames (Stop reading place) = []
deed_frames (Work t) = frames_of t.claimed t.exchange

abbrev pub deed_replies : Deed → List (Bytes × Bytes)
deed_replies (Stop reading place) = []
deed_replies (Work t) = replies_of t.claimed t.exchange

-- what passed in each call of the link
abbrev pub deed_passed : Deed → List Passed
deed_passed (Stop reading place) = []
deed_passed (Work t) = passed_of t.claimed t.exchange

abbrev pub round_calls : Round → List Call
round_calls r = r.calls

-- ---- what the calls found and left

module _ (base : ℕ) (names : List Bytes) where
  -- one call, which found a stop and left all as it was
  pub record Stops (reading place : ℕ) (calls : List (At × At)) : Type 0 where
    pub call : At × At
    pub calls_are : calls ≡ call ∷ []
    pub took : Took reading names base call.0 (Step.Stopping place) call.1

  -- one call, which claimed, and behind it the one that keeps the receipt, where one came
  pub record Works (t : Turn) (calls : List (At × At)) : Type 0 where
    pub claim : At × At
    pub later : List (At × At)
    pub calls_are : calls ≡ claim ∷ later
    pub took : Took t.reading names base claim.0 (Step.Claimed t.claimed) claim.1
    pub exchanged : Exchanged t.claimed t.exchange later

  abbrev pub Did : Deed → List (At × At) → Type 0
  Did (Stop reading place) calls = Stops reading place calls
  Did (Work t) calls = Works t calls

  abbrev pub round_holds : Round → List (At × At) → Type 0
  round_holds r calls = Did r.deed calls
