use Rattle.std.proofs.Common.{◌≡◌, ◌≤◌, ◌<◌, ◌+◌, length}
use Rattle.standby_files.specs.Answers.{Copied, Stands}
use Rattle.standby_files.proofs.Pieces.{ReadSoFar}
use Rattle.standby_files.proofs.reading.answer_input.Given as goal

abbrev pub invariant-pieces : goal.invariant-pieces
invariant-pieces g l = record {
  within : length l.held.items + l.left ≤ l.most;
  room : 0 < length l.piece;
  so_far : (b : Copied) → Stands g.K.Keeper.keeper l.fn.standby b
      → ReadSoFar g.K.Keeper.keeper g.S.Source.source g.O.Sink.sink l.most l.fn.input l.input l.fn.standby l.standby l.fn.output l.output b l.held.items l.left;
  calm : g.K.Keeper.keeper.faults l.standby.keeper ≡ g.K.Keeper.keeper.faults l.fn.standby.keeper;
  calm_output : g.O.Sink.sink.faults l.output ≡ g.O.Sink.sink.faults l.fn.output;
  calm_input : g.S.Source.source.faults l.input ≡ g.S.Source.source.faults l.fn.input;
}

abbrev pub decreases-pieces : goal.decreases-pieces
decreases-pieces g l = l.left
