use Rattle.std.proofs.Common.{◌≡◌, length}
use Rattle.forms_tests.proofs.tests.wires.count_ready.Given as goal

abbrev pub invariant-loop-found : goal.invariant-loop-found
invariant-loop-found l = record {
  rest : record l.reader { ready = l.fn.reader.ready } ≡ l.fn.reader;
}

abbrev pub decreases-loop-found : goal.decreases-loop-found
decreases-loop-found l = length l.reader.ready
