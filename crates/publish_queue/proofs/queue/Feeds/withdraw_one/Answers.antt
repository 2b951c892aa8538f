use Rattle.publish_queue.proofs.Many.{found_at, one_set, one_none}
use Rattle.publish_queue.proofs.queue.Feeds.withdraw_one.Goals as goal

pub returns-in-Some-clause-goes : goal.returns-in-Some-clause-goes
returns-in-Some-clause-goes c = one_set _ _ _ _ _ _ (found_at c.args.self.now _ _ c.in-Some.ensures.found) c.withdraw_at.ensures.sets

pub returns-in_default-clause-goes : goal.returns-in_default-clause-goes
returns-in_default-clause-goes c =
    let none = rw c.in_default.is at c.find.ensures.found in
    one_none _ _ _ (rw c.args.self.now.named none)
