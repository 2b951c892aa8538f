use Rattle.std.proofs.Common.{◌∙◌}
use Rattle.std.specs.Option.{option_copied}
use Rattle.story_tables.proofs.Listed.{row_told, row_untold}
use Rattle.story_tables.proofs.stories.Stories.row.Goals as goal

pub returns-in_err-number : goal.returns-in_err-number
returns-in_err-number c h keeps there =
    c.from_residual.ensures ∙ row_untold h c.args.subscriber.now c.args.k c.number.result (c.number.ensures _ keeps.queue) there c.in_err-number.was

pub returns : goal.returns
returns c h keeps there =
    c.row_shown.ensures ∙ row_told h c.args.subscriber.now c.args.k c.in_ok-number.number c.number.result (option_copied c.published.result) (c.number.ensures _ keeps.queue) there c.in_ok-number.was (c.published.ensures _ _ keeps.publications)
