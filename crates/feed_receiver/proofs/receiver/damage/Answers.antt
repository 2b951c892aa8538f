use Rattle.std.proofs.Common.{subst, sym, ◌+◌}
use Rattle.feed_receiver.specs.Feed.{AreNumber}
use Rattle.feed_receiver.proofs.Numbered.{frames_on, damaged_at}
use Rattle.feed_receiver.proofs.receiver.damage.Goals as goal

pub loop-i-preserved : goal.loop-i-preserved
loop-i-preserved c =
    frames_on c.args.name.now c.args.records.now c.loop-i.i c.index-records-i.result c.loop-i-test.true c.index-records-i.is c.loop-i.invariant
    (subst (AreNumber c.args.name.now (c.loop-i.i + 1)) c.as_slice.ensures c.if-not-is_number.ensures)

pub returns-then-not-is_number : goal.returns-then-not-is_number
returns-then-not-is_number c =
    damaged_at c.args.name.now c.args.records.now c.loop-i.i c.index-records-i.result c.loop-i-test.true c.index-records-i.is c.loop-i.invariant
    (λ n. c.if-not-is_number.ensures (subst (AreNumber c.args.name.now (c.loop-i.i + 1)) (sym c.as_slice.ensures) n))
