use Rattle.std.proofs.Common.{◌≡◌, drop}
use Rattle.desk_routes.specs.Paths.{behind_slash}
use Rattle.desk_routes.proofs.path.behind_slash.Given as goal

abbrev pub invariant-loop-place : goal.invariant-loop-place
invariant-loop-place l = behind_slash (drop l.place l.path) ≡ behind_slash l.path
