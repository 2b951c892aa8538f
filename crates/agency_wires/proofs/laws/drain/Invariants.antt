use Rattle.std.proofs.Common.{◌≡◌, ◌++◌, length}
use Rattle.agency_wires.proofs.laws.drain.Given as goal

abbrev pub invariant-loop-found : goal.invariant-loop-found
invariant-loop-found l = record {
  members : l.out.items ++ l.reader.ready ≡ l.fn.out.items ++ l.fn.reader.ready;
  rest : record l.reader { ready = l.fn.reader.ready } ≡ l.fn.reader;
}

abbrev pub decreases-loop-found : goal.decreases-loop-found
decreases-loop-found l = length l.reader.ready
