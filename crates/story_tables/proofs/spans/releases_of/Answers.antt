use Rattle.story_tables.proofs.Spanned.{map_next}
use Rattle.story_tables.proofs.spans.releases_of.Goals as goal

pub loop-one-preserved : goal.loop-one-preserved
loop-one-preserved c s = map_next s c.args.due.now c.loop-one.one-index c.one-item.result _ _ c.loop-one-test.true c.one-item.is (c.in_ok-put_new.ensures s) (c.loop-one.invariant s)
