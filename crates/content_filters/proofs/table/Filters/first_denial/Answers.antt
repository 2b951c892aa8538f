use Rattle.std.proofs.Common.{sym, ap, ◌∙◌}
use Rattle.std.specs.HashMap.{get}
use Rattle.news_types.specs.Names.{same}
use Rattle.content_filters.specs.Asked.{new_filter_denial, statements_denial}
use Rattle.content_filters.proofs.Changed.{or_none}
use Rattle.content_filters.proofs.Facts.{new_filter, other_statements}
use Rattle.content_filters.proofs.table.Filters.first_denial.Goals as goal

pub returns-in-AddFilter-clause-facts : goal.returns-in-AddFilter-clause-facts
returns-in-AddFilter-clause-facts c condition count fs keeps =
    let t = c.args.self.now in
    let filter = c.in-AddFilter.filter in
    rw c.in-AddFilter.is (c.filter_denial.ensures.value ∙ ap (new_filter_denial t filter) c.as_slice-in-AddFilter.ensures ∙ new_filter t condition count fs filter c.in-AddFilter.statements keeps)

pub returns-in-SetFilter-clause-facts : goal.returns-in-SetFilter-clause-facts
returns-in-SetFilter-clause-facts c condition count fs keeps =
    let t = c.args.self.now in
    let filter = c.in-SetFilter.filter in
    rw c.in-SetFilter.is (c.statements_denial.ensures.value ∙ ap (statements_denial t (get same t.filter_places filter) filter) c.as_slice-in-SetFilter.ensures ∙ other_statements t condition count fs filter c.in-SetFilter.statements keeps)

pub returns-in-SetBlock-clause-facts : goal.returns-in-SetBlock-clause-facts
returns-in-SetBlock-clause-facts c condition count fs keeps =
    rw (c.in-SetBlock.is, ← c.has_filter.ensures condition count fs keeps) (c.unless_there.ensures ∙ sym (or_none _))
