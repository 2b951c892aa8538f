use Rattle.std.proofs.Common.{◌≡◌, ◌++◌, drop}
use Rattle.entry_segments.specs.Segment.{all_packed, InTime}
use Rattle.entry_segments.specs.Spelled.{entries_in}
use Rattle.entry_segments.proofs.packing.put_all.Given as goal

abbrev pub invariant-loop-payload : goal.invariant-loop-payload
invariant-loop-payload l = record {
  bytes : l.out.items ++ all_packed l.names l.moment (drop l.payload-index (entries_in l.payloads)) ≡ l.fn.out.items ++ all_packed l.names 0 (entries_in l.payloads);
  in_time : InTime l.moment (drop l.payload-index (entries_in l.payloads));
}
