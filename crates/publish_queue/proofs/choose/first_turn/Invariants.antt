use Rattle.std.proofs.Common.{◌≡◌, drop}
use Rattle.publish_queue.specs.Choice.{first_among}
use Rattle.publish_queue.proofs.choose.first_turn.Given as goal

-- the answer lies in the rest
abbrev pub invariant-loop-turn : goal.invariant-loop-turn
invariant-loop-turn l = first_among l.names l.moment l.turns ≡ first_among l.names l.moment (drop l.turn-index l.turns)
