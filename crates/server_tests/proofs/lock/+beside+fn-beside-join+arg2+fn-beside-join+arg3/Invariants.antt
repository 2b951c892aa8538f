use Rattle.std.proofs.Common.{◌*◌, ◌+◌}
use Rattle.server_tests.proofs.lock.+beside+fn-beside-join+arg2+fn-beside-join+arg3.Given as goal

abbrev pub decreases-beside : goal.decreases-beside
decreases-beside g l = l.splits * 2

abbrev pub decreases-join+arg2 : goal.decreases-join+arg2
decreases-join+arg2 g l = l.splits * 2 + 1

abbrev pub decreases-join+arg3 : goal.decreases-join+arg3
decreases-join+arg3 g l = l.splits * 2 + 1
