-- Lists with receipts and attempts.
use Rattle.std.specs.Prelude.{false, ℕ, List, [], ◌∷◌, Option, Some, None}
use Rattle.news_types.specs.declared.command.Command.TheVariants.{AddSubscriber, SetSubscriber, Flash}
use Rattle.news_types.specs.declared.words.Format.TheVariants.{Ninjs}
use Rattle.news_types.specs.Names.{Bytes}
use Rattle.news_types.specs.History.{History, moment_at}
use Rattle.news_types.specs.Outcome.{receipt}
use Rattle.news_types.specs.Frames.{Writer}
use Rattle.news_types.specs.Calls.{Claimed, Answer, Job, more, follow, ticked, answer}
use Rattle.worked_rows.specs.Examples.{alpha, every, fire, asked}

-- ---- receipts

-- a feed of length 2
abbrev pub flashed_two : History
flashed_two = asked 1000 (AddSubscriber alpha Ninjs every 0 ∷ Flash (fire 3) [] ∷ Flash (fire 3) [] ∷ []) []

-- behind a receipt of alpha at 1000
abbrev pub received : ℕ → History → History
received n h = more ((receipt h alpha n 1000).more) h

-- ---- attempts

-- a feed of length 1
abbrev pub flashed_one : History
flashed_one = asked 1000 (AddSubscriber alpha Ninjs every 0 ∷ Flash (fire 3) [] ∷ []) []

-- behind a claim for alpha at a clock's reading: the tick comes first
abbrev pub claimed : ℕ → History → History
claimed reading h = let g : History = ticked h (moment_at h reading) in more (follow g (Claimed (alpha ∷ [])) (moment_at h reading)) g

-- behind claims at these readings, one after another
abbrev pub claimed_all : List ℕ → History → History
claimed_all [] h = h
claimed_all (reading ∷ readings) h = claimed_all readings (claimed reading h)

-- what a claim for alpha is answered
abbrev pub claim : Writer → ℕ → History → Answer
claim write reading h = answer write h (Claimed (alpha ∷ [])) (moment_at h reading)

-- the subscriber and the place of a job
abbrev pub job_of : Answer → Option (Bytes × ℕ)
job_of (Job subscriber k frame n) = Some (subscriber, k)
job_of _ = None

-- the jobs of claims at these readings, one after another
abbrev pub jobs : Writer → List ℕ → History → List (Option (Bytes × ℕ))
jobs write [] h = []
jobs write (reading ∷ readings) h = job_of (claim write reading h) ∷ jobs write readings (claimed reading h)

-- the readings at which ten attempts are due, one after another
abbrev pub ten : List ℕ
ten = 1000 ∷ 1060 ∷ 1180 ∷ 1420 ∷ 1900 ∷ 2860 ∷ 4780 ∷ 8380 ∷ 11980 ∷ 15580 ∷ []

-- behind the ten claims
abbrev pub after_ten : History
after_ten = claimed_all ten flashed_one

-- alpha is set inactive before the first claim
abbrev pub inactive : History
inactive = asked 1000 (SetSubscriber alpha false every [] None ∷ []) flashed_one
