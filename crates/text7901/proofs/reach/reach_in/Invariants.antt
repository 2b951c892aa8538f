use Rattle.std.proofs.Common.{◌≤◌, ◌+◌, take}
use Rattle.text7901.specs.Machine.{Leads}
use Rattle.text7901.proofs.reach.reach_in.Given as goal

abbrev pub invariant-loop-i : goal.invariant-loop-i
invariant-loop-i l = record {
  leads : Leads l.fn.start (take l.i l.piece) l.phase;
  few : l.held + l.i ≤ 131071;
}
