use Rattle.std.proofs.Common.{rules, refl, ◌∙◌}
use Rattle.story_tables.proofs.stories.Stories.step_of.Goals as goal

pub returns-in_ok-spans-in-Kill-clause-step : goal.returns-in_ok-spans-in-Kill-clause-step
returns-in_ok-spans-in-Kill-clause-step c ps st keeps = (search rules, c.in_ok-from_slice-in-Kill.ensures.items ∙ c.numbers.ensures ps st keeps, c.in_ok-spans-in-Kill.ensures ps st keeps, refl, refl)
