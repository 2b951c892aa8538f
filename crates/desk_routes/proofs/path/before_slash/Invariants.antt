use Rattle.std.proofs.Common.{◌≡◌, ◌++◌, drop, take}
use Rattle.desk_routes.specs.Paths.{before_slash}
use Rattle.desk_routes.proofs.path.before_slash.Given as goal

abbrev pub invariant-loop-place : goal.invariant-loop-place
invariant-loop-place l = take l.place l.path ++ before_slash (drop l.place l.path) ≡ before_slash l.path
