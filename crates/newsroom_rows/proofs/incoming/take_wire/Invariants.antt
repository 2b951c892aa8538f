use Rattle.std.proofs.Common.{length}
use Rattle.newsroom_rows.specs.Lists.{SomeList}
use Rattle.newsroom_rows.proofs.incoming.take_wire.Given as goal

abbrev pub invariant-loop-found : goal.invariant-loop-found
invariant-loop-found g l = SomeList l.session.machine

abbrev pub decreases-loop-found : goal.decreases-loop-found
decreases-loop-found g l = length l.reader.ready
