-- What workers did beside each other.
use Rattle.std.specs.Prelude.{◌≡◌, ℕ, List, [], ◌∷◌, ◌++◌, true}
use Rattle.news_types.specs.Books.{Book}
use Rattle.news_io.specs.Clock.{ClockMeaning}
use Rattle.news_io.specs.Link.{LinkMeaning}
use Rattle.publish_workers.specs.Links.{Passes, Reads}
use Rattle.room_lock.specs.Calls.{AllClear}
use Rattle.room_lock.specs.Going.{Went}
use Rattle.room_lock.specs.Locks.{front, calls, lock_of}
use Rattle.shared_workers.specs.Rounds.{Round, round_calls, round_holds}
use Rattle.shared_workers.specs.Tallies.{all_readings, all_frames, all_replies, all_passed, finds_stop, GoOn, Counted}
use Rattle.server_roles.specs.declared.job.Job.{Job}
use Rattle.server_roles.specs.declared.job.JobDone.{JobDone}

module _ {C L : Type 0} where
  -- no call of the one overlaps with a call of the other
  abbrev pub Apart : JobDone C L → JobDone C L → Type 0
  Apart j k = AllClear (calls j.pass) (calls k.pass)

  abbrev pub link_of : JobDone C L → L
  link_of k = k.link

  module _ (clock : ClockMeaning C) (link : LinkMeaning L) (base : ℕ) (stands : Book → Type 0) where
    -- The job's rounds, behind all that its pass had seen and done, of which only the last found a stop: their count, and what was read, sent and said in them.
    pub record WentRounds (j : Job C L) (k : JobDone C L) : Type 0 where
      pub lock : lock_of k.pass ≡ lock_of j.pass
      pub before : List Round
      pub last : Round
      pub go_on : GoOn before
      pub stops : finds_stop last ≡ true
      pub counted : Counted before k.tally
      pub went : Went round_calls (round_holds base (link.serves j.link)) stands (front j.pass) (calls j.pass) (front k.pass) (calls k.pass) (before ++ last ∷ [])
      pub passes : link.tells j.link → Passes link j.link k.link (all_frames (before ++ last ∷ [])) (all_replies (before ++ last ∷ [])) (all_passed (before ++ last ∷ []))
      pub reads : clock.tells j.clock → Reads clock j.clock k.clock (all_readings (before ++ last ∷ []))
      pub serves : link.serves k.link ≡ link.serves j.link
