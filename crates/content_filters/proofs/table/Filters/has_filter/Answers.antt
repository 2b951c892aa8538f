use Rattle.std.proofs.Common.{is_some, ap, ◌∙◌}
use Rattle.content_filters.proofs.Ages.{aged}
use Rattle.content_filters.proofs.table.Filters.has_filter.Goals as goal

pub returns : goal.returns
returns c condition count fs keeps =
    let name = c.args.filter.now in
    c.is_some.ensures ∙ ap is_some (c.place_of.ensures ∙ keeps.ages name) ∙ aged fs name
