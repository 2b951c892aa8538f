use Rattle.std.proofs.Common.{◌∙◌, arith}
use Rattle.publish_queue.proofs.Many.{sets}
use Rattle.publish_queue.proofs.InTurn.{names_kept}
use Rattle.publish_queue.proofs.queue.Feeds.reserve_at.Goals as goal

pub returns-clause-sets : goal.returns-clause-sets
returns-clause-sets c = sets _ _ _ c.index_mut.result.now c.reserve.new.self (omega (arith, c.args.self.now.feeds.ok.0, c.requires)) c.index_mut.ensures.value (record {
  alike = c.reserve.ensures.alike;
  turn = c.reserve.ensures.turn;
})

pub invariant_of-self-clause-named : goal.invariant_of-self-clause-named
invariant_of-self-clause-named c = names_kept _ _ c.index_mut.result.now c.reserve.new.self c.index_mut.ensures.value c.reserve.ensures.alike.delivery.name ∙ c.args.self.now.named
