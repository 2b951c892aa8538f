use Rattle.std.proofs.Common.{◌∙◌}
use Rattle.agency_items.proofs.Cuts.{cut_long}
use Rattle.agency_items.proofs.texts.cut.Goals as goal

pub returns-clause-value : goal.returns-clause-value
returns-clause-value c =
    let floor = c.floor_char_boundary.ensures in
    c.split_at.ensures.front ∙ cut_long c.args.text.now c.floor_char_boundary.result c.if-text-le-LONGEST_LINE.false floor.bound floor.boundary floor.nearest
