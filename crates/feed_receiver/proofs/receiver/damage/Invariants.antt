use Rattle.std.proofs.Common.{take}
use Rattle.feed_receiver.specs.Feed.{AreFrames}
use Rattle.feed_receiver.proofs.receiver.damage.Given as goal

abbrev pub invariant-loop-i : goal.invariant-loop-i
invariant-loop-i l = AreFrames l.name (take l.i l.records)
