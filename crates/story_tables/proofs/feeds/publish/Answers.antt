use Rattle.publish_queue.specs.Keeps.{facts}
use Rattle.story_tables.proofs.Carried.{alike}
use Rattle.story_tables.proofs.feeds.publish.Goals as goal

pub returns : goal.returns
returns c h g keeps does later =
    c.advance.ensures.keeps _ (alike _ _ (facts g) does.subscribed does.stands does.sent.receipts does.sent.attempts does.sent.last
    (c.add.ensures.keeps _ does.p keeps does.later does.is_number does.is_release does.is_due_to does.fair does.known)) later
