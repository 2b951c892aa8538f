use Rattle.std.proofs.Common.{◌≡◌, ◌≤◌, ◌<◌, ◌+◌, length}
use Rattle.feed_receiver.specs.Holds.{Received, Holds}
use Rattle.frame_run.proofs.Pieces.{ReadSoFar}
use Rattle.frame_run.proofs.reading.answer_input.Given as goal

abbrev pub invariant-pieces : goal.invariant-pieces
invariant-pieces g l = record {
  within : length l.held.items + l.left ≤ l.most;
  room : 0 < length l.piece;
  so_far : (b : Received) → Holds g.K.Keeper.keeper l.fn.receiver b
      → ReadSoFar g.K.Keeper.keeper g.S.Source.source g.O.Sink.sink l.most l.fn.input l.input l.fn.receiver l.receiver l.fn.output l.output b l.held.items l.left;
  calm : g.K.Keeper.keeper.faults l.receiver.keeper ≡ g.K.Keeper.keeper.faults l.fn.receiver.keeper;
  calm_output : g.O.Sink.sink.faults l.output ≡ g.O.Sink.sink.faults l.fn.output;
  calm_input : g.S.Source.source.faults l.input ≡ g.S.Source.source.faults l.fn.input;
}

abbrev pub decreases-pieces : goal.decreases-pieces
decreases-pieces g l = l.left
