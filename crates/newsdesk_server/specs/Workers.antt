-- Workers before their first round.
use Rattle.std.specs.Prelude.{◌≡◌, List, []}
use Rattle.atomic_table.specs.Seated.{TableId}
use Rattle.news_types.specs.declared.entry.Entry.{Entry}
use Rattle.room_lock.specs.declared.pass.Pass.{Pass}
use Rattle.room_lock.specs.Locks.{front, calls, lock_of}
use Rattle.server_roles.specs.declared.job.Job.{Job}

-- a pass of this lock that has seen these entries and made no calls
pub record IsNewPass (lock : TableId) (seen : List Entry) (p : Pass) : Type 0 where
  pub lock_is : lock_of p ≡ lock
  pub front_is : front p ≡ seen
  pub calls_are : calls p ≡ []

module _ {C L : Type 0} where
  abbrev pub pass_of : Job C L → Pass
  pass_of j = j.pass

  abbrev pub clock_of : Job C L → C
  clock_of j = j.clock

  abbrev pub link_of : Job C L → L
  link_of j = j.link

  -- a worker that has seen and done nothing yet
  pub record IsNew (j : Job C L) : Type 0 where
    pub front_is : front j.pass ≡ []
    pub calls_are : calls j.pass ≡ []
