use Rattle.story_tables.proofs.stories.Stories.waits_until.Goals as goal

pub returns : goal.returns
returns c h keeps = c.waits_until.ensures _ keeps.queue
