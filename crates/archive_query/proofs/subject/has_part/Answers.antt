use Rattle.std.proofs.Common.{◌∙◌}
use Rattle.content_filters.proofs.Parts.{finds_part}
use Rattle.archive_query.proofs.subject.has_part.Goals as goal

pub returns : goal.returns
returns c = c.is_some.ensures ∙ finds_part c.args.text.now c.args.part.now c.find.result c.find.ensures
