use Rattle.std.proofs.Common.{◌≡◌, ◌≤◌, ◌-◌, length}
use Rattle.standby_files.specs.Answers.{Copied, Stands}
use Rattle.standby_files.proofs.Pieces.{FrontSoFar}
use Rattle.standby_files.proofs.front.answer_whole.Given as goal

abbrev pub invariant-records : goal.invariant-records
invariant-records g l = record {
  within : l.done ≤ length l.bytes;
  so_far : (b : Copied) → Stands g.K.Keeper.keeper l.fn.standby b → FrontSoFar g.K.Keeper.keeper g.O.Sink.sink l.fn.standby l.standby l.fn.output l.output b l.bytes l.done;
  calm : g.K.Keeper.keeper.faults l.standby.keeper ≡ g.K.Keeper.keeper.faults l.fn.standby.keeper;
  calm_output : g.O.Sink.sink.faults l.output ≡ g.O.Sink.sink.faults l.fn.output;
}

abbrev pub decreases-records : goal.decreases-records
decreases-records g l = length l.bytes - l.done
