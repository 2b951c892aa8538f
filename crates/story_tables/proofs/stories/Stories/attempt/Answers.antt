use Rattle.story_tables.proofs.Delivered.{ready_there}
use Rattle.story_tables.proofs.stories.Stories.attempt.Goals as goal

pub returns : goal.returns
returns c h k keeps later ready =
    let there = ready_there h c.args.subscriber.now c.args.moment ready in
    record {
      items = keeps.items;
      publications = keeps.publications;
      queue = c.advance.ensures.keeps _ (c.attempt.ensures.keeps _ keeps.queue there.0 there.1) later;
    }
