use Rattle.std.proofs.Common.{◌≤◌, ◌+◌, ◌-◌, take, length}
use Rattle.agency_wires.specs.Machine.{Leads}
use Rattle.agency_wires.proofs.reach.reach_in.Given as goal

abbrev pub invariant-loop-at : goal.invariant-loop-at
invariant-loop-at l = record {
  leads : Leads l.fn.start (take l.at l.piece) l.phase;
  few : l.held + l.at ≤ 1_048_576;
  within : l.at ≤ length l.piece;
}

abbrev pub decreases-loop-at : goal.decreases-loop-at
decreases-loop-at l = length l.piece - l.at
