use Rattle.story_tables.proofs.stories.Stories.next_ready.Goals as goal

pub returns : goal.returns
returns c h keeps = c.next_ready.ensures h keeps.queue
