use Rattle.story_tables.proofs.stories.Stories.receipt.Goals as goal

pub returns : goal.returns
returns c h keeps later raises there = record {
  items = keeps.items;
  publications = keeps.publications;
  queue = c.advance.ensures.keeps _ (c.receipt.ensures.keeps _ keeps.queue there raises) later;
}
