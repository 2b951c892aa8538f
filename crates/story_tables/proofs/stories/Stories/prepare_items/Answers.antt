use Rattle.story_tables.proofs.Silent.{not_made}
use Rattle.story_tables.proofs.stories.Stories.prepare_items.Goals as goal

pub returns-in-Create-clause-change : goal.returns-in-Create-clause-change
returns-in-Create-clause-change c h caller number keeps silent = rw c.in-Create.is (c.prepare_create.ensures.change h c.args.moment caller number c.in-Create.desk)

pub returns-in_default-clause-change : goal.returns-in_default-clause-change
returns-in_default-clause-change c h caller number keeps silent = c.prepare_set.ensures.change h caller number keeps (not_made c.args.command.now silent c.in_default.not-Create)
