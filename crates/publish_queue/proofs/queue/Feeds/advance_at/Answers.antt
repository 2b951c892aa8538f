use Rattle.std.proofs.Common.{◌∙◌}
use Rattle.publish_queue.proofs.InTurn.{names_kept, ordered_kept}
use Rattle.publish_queue.proofs.queue.Feeds.advance_at.Goals as goal

pub returns-clause-ordered : goal.returns-clause-ordered
returns-clause-ordered c o = c.settle_at.ensures.ordered (ordered_kept _ _ _ c.index_mut.result.now c.advance.new.self c.index_mut.ensures.value c.advance.ensures.advanced.delivery.name c.advance.ensures.turn o)

pub invariant_of-self-clause-named : goal.invariant_of-self-clause-named
invariant_of-self-clause-named c = names_kept _ _ c.index_mut.result.now c.advance.new.self c.index_mut.ensures.value c.advance.ensures.advanced.delivery.name ∙ c.args.self.now.named
