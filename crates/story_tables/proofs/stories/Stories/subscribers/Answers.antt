use Rattle.story_tables.proofs.InOrder.{subscribers_in_order}
use Rattle.story_tables.proofs.stories.Stories.subscribers.Goals as goal

pub returns : goal.returns
returns c h keeps legal = subscribers_in_order h c.names.result.now legal c.names.ensures.ascends (c.names.ensures.members _ keeps.queue)
