use Rattle.std.proofs.Common.{◌≡◌}
use Rattle.desk_routes.specs.Paths.{behind}
use Rattle.desk_routes.proofs.path.part.Given as goal

abbrev pub invariant-loop-passed : goal.invariant-loop-passed
invariant-loop-passed l = l.rest ≡ behind l.passed l.fn.path
