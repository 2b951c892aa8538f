use Rattle.std.proofs.Common.{◌≡◌, ◌≤◌, ◌++◌, map, length, All}
use Rattle.wire_bodies.specs.Bodies.{text_member, FitsMember}
use Rattle.wire_bodies.proofs.wire.keep_ready.Given as goal

abbrev pub invariant-loop-found : goal.invariant-loop-found
invariant-loop-found l = record {
  kept : l.members.items ++ map text_member l.reader.ready ≡ l.fn.members.items ++ map text_member l.fn.reader.ready;
  few : length l.members.items ≤ 4096;
  fits : All FitsMember l.fn.members.items → All FitsMember l.members.items;
  rest : record l.reader { ready = l.fn.reader.ready } ≡ l.fn.reader;
}

abbrev pub decreases-loop-found : goal.decreases-loop-found
decreases-loop-found l = length l.reader.ready
