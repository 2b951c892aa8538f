use Rattle.std.proofs.Common.{ap, ◌∙◌}
use Rattle.desk_views.specs.Things.{names_of}
use Rattle.name_rolls.specs.Rolls.{names_in}
use Rattle.name_rolls.proofs.Kept.{each_of}
use Rattle.name_rolls.proofs.rolls.Rolls.page.Goals as goal

pub returns : goal.returns
returns c h keeps = c.page.ensures (names_of c.args.of h) (ap names_in c.roll.ensures ∙ each_of c.args.self.now h keeps c.args.of)
