use Rattle.story_tables.proofs.stories.Stories.feed_facts.Goals as goal

pub returns : goal.returns
returns c h keeps = c.facts.ensures _ keeps.queue
