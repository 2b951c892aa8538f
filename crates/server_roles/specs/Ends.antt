-- What the roles did beside each other, by the last list.
use Rattle.std.specs.Prelude.{◌≡◌, ℕ, List, ◌++◌, All, map}
use Rattle.std.specs.List.{AllZip, AllPairs}
use mathlib.Core.List.{IsPrefix}
use Rattle.news_types.specs.declared.entry.Entry.{Entry}
use Rattle.news_types.specs.Books.{Book}
use Rattle.news_io.specs.Clock.{ClockMeaning}
use Rattle.news_io.specs.Link.{LinkMeaning}
use Rattle.room_lock.specs.Calls.{AllClear}
use Rattle.room_lock.specs.Locks.{front, calls}
use Rattle.room_lock.specs.declared.view.Call.{Call}
use Rattle.server_doors.specs.Doors.{DoorMeaning}
use Rattle.server_roles.specs.declared.first.Ending.{Ending}
use Rattle.server_roles.specs.declared.job.Job.{Job}
use Rattle.server_roles.specs.declared.job.JobDone.{JobDone}
use Rattle.server_roles.specs.Firsts.{First}
use Rattle.server_roles.specs.Teams.{Apart, link_of, WentRounds}

-- The first role and each worker did its own, of which the entries begin those that are kept in the end, and no calls of two roles overlap. The links came
-- back in the order of the jobs.
pub record Roles {G C L : Type 0} (door : DoorMeaning G) (clock : ClockMeaning C) (link : LinkMeaning L) (base : ℕ) (stands : Book → Type 0) (old new : G) (c : C) (seen : List Entry) (made : List Call) (jobs : List (Job C L)) (links links' : List L) (ending : Ending) (more : List Entry) : Type 0 where
  -- what the first role had seen and done
  pub first_front : List Entry
  pub first_calls : List Call
  pub first : First door clock stands old new c seen made first_front first_calls ending
  pub first_begins : IsPrefix first_front more
  pub done : List (JobDone C L)
  pub worked : AllZip (WentRounds clock link base stands) jobs done
  pub done_begin : All (λ k. IsPrefix (front k.pass) more) done
  pub links_are : links' ≡ links ++ map link_of done
  pub first_apart : All (λ k. AllClear first_calls (calls k.pass)) done
  pub done_apart : AllPairs Apart done
