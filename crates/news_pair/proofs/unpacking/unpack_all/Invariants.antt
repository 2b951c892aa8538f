use Rattle.std.proofs.Common.{◌≡◌, ◌*◌, ◌≤◌, ◌<◌, ◌^◌, None, length, take, drop}
use Rattle.std.specs.Prelude.{All}
use Rattle.news_io.specs.declared.record.Record.{Record}
use Rattle.news_journal.specs.Log.{records}
use Rattle.news_journal.specs.Opened.{payloads, places}
use Rattle.news_pair.specs.Pair.{AreSegments, packed_by}
use Rattle.news_pair.specs.Placed.{side_records}
use Rattle.news_pair.specs.Damage.{first_of, no_segment, misplaced}
use Rattle.news_pair.proofs.Judging.{FromHere}
use Rattle.news_pair.proofs.unpacking.unpack_all.Given as goal

abbrev pub invariant-loop-kept : goal.invariant-loop-kept
invariant-loop-kept l = record {
  entries : payloads l.entries.items ≡ packed_by (payloads (take l.kept-index l.segments));
  stand : l.entries.items ≡ side_records (places (take l.kept-index l.segments));
  placed : l.misplaced ≡ None → AreSegments 0 (payloads (take l.kept-index l.segments));
  few : 2 * length l.entries.items ≤ length (records (payloads (take l.kept-index l.segments)));
  at : All (λ (r : Record). r.at < 2 ^ 30) l.entries.items;
  whole : first_of no_segment (places l.segments) ≡ first_of no_segment (drop l.kept-index (places l.segments));
  found : FromHere l.misplaced (length l.entries.items) (drop l.kept-index (places l.segments)) (misplaced 0 (places l.segments));
}
