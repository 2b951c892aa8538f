use Rattle.std.proofs.Common.{refl, ◌∙◌, arith}
use Rattle.publish_queue.proofs.Many.{walked_none, walked_sets, walked_all}
use Rattle.publish_queue.proofs.queue.Feeds.advance.Goals as goal

pub loop-at-init : goal.loop-at-init
loop-at-init c = record { names = refl; walked = walked_none _ _; ordered = λ o. o }

pub loop-at-preserved : goal.loop-at-preserved
loop-at-preserved c = record {
  names = c.advance_at.ensures.names ∙ c.loop-at.invariant.names;
  walked = walked_sets _ _ _ _ _ c.loop-at.invariant.walked c.advance_at.ensures.sets;
  ordered = λ o. c.advance_at.ensures.ordered (c.loop-at.invariant.ordered o);
}

pub returns-clause-each : goal.returns-clause-each
returns-clause-each c = walked_all _ _ _ _ c.loop-at.invariant.walked (omega (arith, c.loop-at-test.false, c.len-at-end.ensures, c.args.self.now.feeds.ok.0))
