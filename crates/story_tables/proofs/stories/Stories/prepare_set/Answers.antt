use Rattle.story_tables.proofs.stories.Stories.prepare_set.Goals as goal

pub returns-clause-change : goal.returns-clause-change
returns-clause-change c h caller number keeps old = c.set_to.ensures.change h caller number keeps old c.in_ok-story.ensures
