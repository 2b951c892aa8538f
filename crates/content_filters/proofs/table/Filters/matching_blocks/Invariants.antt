use Rattle.std.proofs.Common.{◌≡◌, ◌++◌, drop}
use Rattle.content_filters.specs.Keeps.{blocks_by, names_of, matching_blocks}
use Rattle.content_filters.proofs.table.Filters.matching_blocks.Given as goal

abbrev pub invariant-loop-filter : goal.invariant-loop-filter
invariant-loop-filter l =
    l.names.items ++ names_of (blocks_by l.fn.self l.verdicts) (drop l.filter-index l.fn.self.filters.items) ≡ matching_blocks l.fn.self l.verdicts
