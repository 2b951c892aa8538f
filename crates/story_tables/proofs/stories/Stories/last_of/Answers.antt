use Rattle.story_tables.proofs.stories.Stories.last_of.Goals as goal

pub returns : goal.returns
returns c h keeps = c.last_of.ensures _ _ keeps.publications
