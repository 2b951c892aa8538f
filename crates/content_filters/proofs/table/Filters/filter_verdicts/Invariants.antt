use Rattle.std.proofs.Common.{◌≡◌, drop, []}
use Rattle.content_filters.specs.Keeps.{judged}
use Rattle.content_filters.proofs.table.Filters.filter_verdicts.Given as goal

abbrev pub invariant-loop-filter : goal.invariant-loop-filter
invariant-loop-filter l =
    judged l.fn.self l.conditions l.verdicts.items (drop l.filter-index l.fn.self.filters.items) ≡ judged l.fn.self l.conditions [] l.fn.self.filters.items
