-- Rounds of a worker, one behind another, and how they are counted.
use Rattle.std.specs.Prelude.{◌≡◌, ℕ, ◌+◌, List, [], ◌∷◌, ◌++◌, Bool, true, false, min, if◌then◌else◌}
use Rattle.news_types.specs.Names.{Bytes}
use Rattle.news_types.specs.Members.{Each}
use Rattle.news_io.specs.Link.{Passed}
use Rattle.publish_workers.specs.declared.worked.Worked.{Worked}
use Rattle.publish_workers.specs.declared.worked.Worked.TheVariants.{Delivered, Idle}
use Rattle.shared_workers.specs.declared.tally.Tally.{Tally}
use Rattle.shared_workers.specs.declared.worker.WorkerTurn.{WorkerTurn}
use Rattle.shared_workers.specs.Rounds.{Round, answer_of, is_stopping, deed_readings, deed_frames, deed_replies, deed_passed}

-- ---- all that was read, sent and said

abbrev pub gather : {S A : Type 0} → (S → List A) → List S → List A
gather f [] = []
gather f (s ∷ ss) = f s ++ gather f ss

abbrev pub all_readings : List Round → List ℕ
all_readings rounds = gather (λ (r : Round). deed_readings r.deed) rounds

abbrev pub all_frames : List Round → List (Bytes × Bytes)
all_frames rounds = gather (λ (r : Round). deed_frames r.deed) rounds

abbrev pub all_replies : List Round → List (Bytes × Bytes)
all_replies rounds = gather (λ (r : Round). deed_replies r.deed) rounds

abbrev pub all_passed : List Round → List Passed
all_passed rounds = gather (λ (r : Round). deed_passed r.deed) rounds

-- ---- where it ends

abbrev pub finds_stop : Round → Bool
finds_stop r = is_stopping (answer_of r.deed)

-- none of them found a stop
abbrev pub GoOn : List Round → Type 0
GoOn rounds = Each (λ (r : Round). finds_stop r ≡ false) rounds

-- ---- the count

abbrev pub is_delivered : Worked → Bool
is_delivered (Delivered s k n) = true
is_delivered _ = false

-- neither delivered nor idle
abbrev pub is_failed : Worked → Bool
is_failed (Delivered s k n) = false
is_failed (Idle next) = false
is_failed _ = true

abbrev pub is_answered : (Worked → Bool) → WorkerTurn → Bool
is_answered test (WorkerTurn.Stopping place) = false
is_answered test (WorkerTurn.Worked worked) = test worked

abbrev pub one_if : Bool → ℕ
one_if b = if b then 1 else 0

abbrev pub how_many : (Worked → Bool) → List Round → ℕ
how_many test [] = 0
how_many test (r ∷ rounds) = one_if (is_answered test (answer_of r.deed)) + how_many test rounds

abbrev pub MOST : ℕ
MOST = 18446744073709551615

-- the tally counts these rounds, as far as its numbers go
pub record Counted (rounds : List Round) (tally : Tally) : Type 0 where
  pub delivered_is : tally.delivered ≡ min (how_many is_delivered rounds) MOST
  pub failed_is : tally.failed ≡ min (how_many is_failed rounds) MOST
