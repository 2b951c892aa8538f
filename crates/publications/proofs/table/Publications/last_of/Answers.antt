use Rattle.std.proofs.Common.{ap, ◌∙◌}
use Rattle.publications.specs.Numbers.{last_below}
use Rattle.publications.proofs.Lasts.{last_found}
use Rattle.publications.proofs.table.Publications.last_of.Goals as goal

pub returns : goal.returns
returns c ps st keeps =
    c.last_below.ensures ∙ ap (last_below c.args.below) (c.numbers_of.ensures ∙ keeps.numbers c.args.item) ∙ last_found c.args.item c.args.below ps
