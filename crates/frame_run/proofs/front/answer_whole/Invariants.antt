use Rattle.std.proofs.Common.{◌≡◌, ◌≤◌, ◌-◌, length}
use Rattle.feed_receiver.specs.Holds.{Received, Holds}
use Rattle.frame_run.proofs.Pieces.{FrontSoFar}
use Rattle.frame_run.proofs.front.answer_whole.Given as goal

abbrev pub invariant-frames : goal.invariant-frames
invariant-frames g l = record {
  within : l.done ≤ length l.bytes;
  so_far : (b : Received) → Holds g.K.Keeper.keeper l.fn.receiver b → FrontSoFar g.K.Keeper.keeper g.O.Sink.sink l.fn.receiver l.receiver l.fn.output l.output b l.bytes l.done;
  calm : g.K.Keeper.keeper.faults l.receiver.keeper ≡ g.K.Keeper.keeper.faults l.fn.receiver.keeper;
  calm_output : g.O.Sink.sink.faults l.output ≡ g.O.Sink.sink.faults l.fn.output;
}

abbrev pub decreases-frames : goal.decreases-frames
decreases-frames g l = length l.bytes - l.done
