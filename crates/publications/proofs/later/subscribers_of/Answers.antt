use Rattle.publications.proofs.Known.{known_next}
use Rattle.publications.proofs.later.subscribers_of.Goals as goal

pub loop-one-preserved : goal.loop-one-preserved
loop-one-preserved c s = known_next s c.args.due.now c.loop-one.one-index c.one-item.result _ _ c.loop-one-test.true c.one-item.is (c.in_ok-insert.ensures.knows s) (c.loop-one.invariant s)
