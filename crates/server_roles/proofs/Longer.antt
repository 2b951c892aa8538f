-- What the roles did, by a longer list.
use Rattle.std.proofs.Common.{ℕ, List}
use mathlib.Core.List.{IsPrefix}
use Rattle.std.proofs.lemmas.List.Elements.{All-weaker}
use Rattle.news_types.specs.declared.entry.Entry.{Entry}
use Rattle.news_types.specs.Books.{Book}
use Rattle.news_io.specs.Clock.{ClockMeaning}
use Rattle.news_io.specs.Link.{LinkMeaning}
use Rattle.room_lock.specs.Locks.{front}
use Rattle.room_lock.specs.declared.view.Call.{Call}
use Rattle.room_lock.proofs.Fronts.{prefix_trans}
use Rattle.server_doors.specs.Doors.{DoorMeaning}
use Rattle.server_roles.specs.declared.first.Ending.{Ending}
use Rattle.server_roles.specs.declared.job.Job.{Job}
use Rattle.server_roles.specs.declared.job.JobDone.{JobDone}
use Rattle.server_roles.specs.Ends.{Roles}

module _ {G C L : Type 0} (door : DoorMeaning G) (clock : ClockMeaning C) (link : LinkMeaning L) (base : ℕ) (stands : Book → Type 0) (old new : G) (c : C) (seen : List Entry) (made : List Call) (jobs : List (Job C L)) (links links' : List L) (ending : Ending) where
  pub roles_longer : (mid more : List Entry) → Roles door clock link base stands old new c seen made jobs links links' ending mid → IsPrefix mid more → Roles door clock link base stands old new c seen made jobs links links' ending more
  roles_longer mid more r p = record {
    first_front = r.first_front;
    first_calls = r.first_calls;
    first = r.first;
    first_begins = prefix_trans r.first_front mid more r.first_begins p;
    done = r.done;
    worked = r.worked;
    done_begin = All-weaker (λ (k : JobDone C L). IsPrefix (front k.pass) mid) (λ (k : JobDone C L). IsPrefix (front k.pass) more) (λ k q. prefix_trans (front k.pass) mid more q p) r.done r.done_begin;
    links_are = r.links_are;
    first_apart = r.first_apart;
    done_apart = r.done_apart;
  }
