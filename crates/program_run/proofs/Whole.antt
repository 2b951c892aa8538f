-- An input that was read to its end, or was not.
use Rattle.std.proofs.Common.{◌≡◌, ℕ, ◌+◌, ◌<◌, ◌≤◌, List, [], length, subst, arith}
use Rattle.std.specs.Prelude.{Ok, Err}
use Rattle.news_io.specs.Outside.{Meanings, Outside}
use Rattle.line_run.specs.Run as ran
use Rattle.line_run.specs.Status as lower
use Rattle.line_run.specs.declared.ending.Ending.{Ending}
use Rattle.line_run.specs.declared.ending.Ending.TheVariants as end
use Rattle.wire_run.specs.Reading.{IsReadThrough}
use Rattle.world_laws.specs.World.{Event}
use Rattle.program_run.specs.Members.{WasRead}
use Rattle.program_run.specs.Reported.{IsStopped, IsCalm}
use Rattle.program_run.specs.Whole.{IsReadWhole, IsNotRead}

module _ {D S O C L : Type 0} (m : Meanings D S O C L) (before after : Outside D S O C L) (number : ℕ) (most : ℕ) where
  was_read : (read more : List ℕ) → ran.WasRead m.source before.input after.input read more → WasRead m before after read more
  was_read read more was = record { told = was.told; input = was.input; rest = was.rest }

  -- all its bytes
  abbrev pub all_read : (kept : List ℕ) → IsReadThrough m.source most before.input after.input kept (Ok tt) → List ℕ
  all_read kept r = let part = r.0 in part.read

  pub read_whole : (kept : List ℕ) → (r : IsReadThrough m.source most before.input after.input kept (Ok tt)) → IsReadWhole m before after number most (all_read kept r)
  read_whole kept r =
      let part = r.0 in
      record { was_read = was_read part.read [] (subst (ran.WasRead m.source before.input after.input part.read) r.1 part.was_read); few = r.2; calm = r.4 }

  module _ (events : List Event) (none : events ≡ []) (calm : IsCalm m before after) (clock : after.clock ≡ before.clock) where
    pub not_read : (why : Ending) → IsReadThrough m.source most before.input after.input [] (Err why) → IsStopped m before after number (lower.status_by why) → IsNotRead m before after number most events
    not_read end.Read r stopped =
        let part = r.0 in
        record {
          why = end.Read;
          read = part.read;
          more = part.more;
          was_read = was_read part.read part.more part.was_read;
          read_to = r.1;
          counts = r.2;
          stopped = stopped;
          none = none;
          calm = calm;
          clock = clock;
        }
    not_read end.TooLong r stopped =
        let part = r.0 in
        let few : length part.read ≤ most + 1 = part.few in
        let long : most < length part.read = r.1 in
        record {
          why = end.TooLong;
          read = part.read;
          more = part.more;
          was_read = was_read part.read part.more part.was_read;
          read_to = omega (arith, few, long);
          counts = r.2;
          stopped = stopped;
          none = none;
          calm = calm;
          clock = clock;
        }
    not_read end.Memory r stopped =
        let part = r.0 in
        record {
          why = end.Memory;
          read = part.read;
          more = part.more;
          was_read = was_read part.read part.more part.was_read;
          read_to = part.few;
          counts = r.1;
          stopped = stopped;
          none = none;
          calm = calm;
          clock = clock;
        }
    not_read end.Write r stopped = absurd r
    not_read end.Store r stopped = absurd r
    not_read end.Full r stopped = absurd r
