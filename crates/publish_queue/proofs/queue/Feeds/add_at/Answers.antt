use Rattle.std.proofs.Common.{◌≡◌, ◌∙◌, arith}
use Rattle.publish_queue.specs.Steps.{IsAdded}
use Rattle.publish_queue.proofs.Many.{sets, sets_then}
use Rattle.publish_queue.proofs.InTurn.{names_kept, ordered_kept, added_alike}
use Rattle.publish_queue.proofs.queue.Feeds.add_at.Goals as goal

pub returns-clause-sets : goal.returns-clause-sets
returns-clause-sets c =
    let r = c.args.release in
    let m = c.args.moment in
    let first = sets (λ f g. (g.name ≡ f.name) × IsAdded r m f g) _ _ c.index_mut.result.now c.add.new.self (omega (arith, c.args.self.now.feeds.ok.0, c.requires.within)) c.index_mut.ensures.value (c.add.ensures.name, c.add.ensures.added) in
    sets_then _ _ _ _ _ _ _ first c.settle_at.ensures.sets (λ f g h a b. record {
      name = b.alike.delivery.name ∙ a.0;
      added = added_alike r m f g h a.1 b.alike;
      turn = b.turn;
    })

pub returns-clause-ordered : goal.returns-clause-ordered
returns-clause-ordered c o = c.settle_at.ensures.ordered (ordered_kept _ _ _ c.index_mut.result.now c.add.new.self c.index_mut.ensures.value c.add.ensures.name c.add.ensures.turn o)

pub invariant_of-self-clause-named : goal.invariant_of-self-clause-named
invariant_of-self-clause-named c = names_kept _ _ c.index_mut.result.now c.add.new.self c.index_mut.ensures.value c.add.ensures.name ∙ c.args.self.now.named
