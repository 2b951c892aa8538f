use Rattle.std.proofs.Common.{◌≡◌, ◌≤◌, ◌++◌, map, length}
use Rattle.wire_bodies.specs.Bodies.{agency_member}
use Rattle.wire_bodies.proofs.agency_wire.keep_ready.Given as goal

abbrev pub invariant-loop-found : goal.invariant-loop-found
invariant-loop-found l = record {
  kept : l.members.items ++ map agency_member l.reader.ready ≡ l.fn.members.items ++ map agency_member l.fn.reader.ready;
  few : length l.members.items ≤ 4096;
  rest : record l.reader { ready = l.fn.reader.ready } ≡ l.fn.reader;
}

abbrev pub decreases-loop-found : goal.decreases-loop-found
decreases-loop-found l = length l.reader.ready
