use Rattle.story_tables.proofs.stories.Stories.numbers.Goals as goal

pub returns : goal.returns
returns c h keeps = c.numbers.ensures _ _ keeps.publications
