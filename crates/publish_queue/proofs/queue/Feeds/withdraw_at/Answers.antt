use Rattle.std.proofs.Common.{◌∙◌}
use Rattle.publish_queue.proofs.InTurn.{names_kept}
use Rattle.publish_queue.proofs.queue.Feeds.withdraw_at.Goals as goal

pub invariant_of-self-clause-named : goal.invariant_of-self-clause-named
invariant_of-self-clause-named c = names_kept _ _ c.index_mut.result.now c.withdraw.new.self c.index_mut.ensures.value c.withdraw.ensures.delivery.name ∙ c.args.self.now.named
