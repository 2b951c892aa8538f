use Rattle.publish_queue.proofs.ByName.{none_in_order}
use Rattle.publish_queue.proofs.InTurn.{nothing_in_turn}
use Rattle.publish_queue.proofs.queue.Feeds.new.Goals as goal

pub invariant_of-result-clause-ascends : goal.invariant_of-result-clause-ascends
invariant_of-result-clause-ascends c = rw c.new.ensures.items none_in_order

pub returns-clause-ordered : goal.returns-clause-ordered
returns-clause-ordered c = nothing_in_turn _ _ c.new-2.ensures.items c.new-3.ensures
