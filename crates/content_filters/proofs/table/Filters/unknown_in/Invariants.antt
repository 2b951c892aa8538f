use Rattle.std.proofs.Common.{◌≡◌, drop}
use Rattle.news_types.specs.Denial.{first_missing}
use Rattle.content_filters.specs.Asked.{unknown_in}
use Rattle.content_filters.proofs.table.Filters.unknown_in.Given as goal

abbrev pub invariant-loop-statement : goal.invariant-loop-statement
invariant-loop-statement l =
    first_missing (unknown_in l.fn.self l.filter (drop l.statement-index l.statements)) ≡ first_missing (unknown_in l.fn.self l.filter l.statements)
