use Rattle.std.proofs.Common.{[], ◌∙◌}
use Rattle.name_rolls.proofs.rolls.roll_of_one.Goals as goal

pub returns : goal.returns
returns c = c.put.ensures [] (c.in_ok-reserve.ensures.alike ∙ c.new-roll.ensures)
