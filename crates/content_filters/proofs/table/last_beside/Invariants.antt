use Rattle.std.proofs.Common.{◌≡◌, drop}
use Rattle.content_filters.specs.Keeps.{else_that, last_beside}
use Rattle.content_filters.proofs.table.last_beside.Given as goal

abbrev pub invariant-loop-name : goal.invariant-loop-name
invariant-loop-name l = else_that (last_beside (drop l.name-index l.names) l.off) l.last ≡ last_beside l.names l.off
