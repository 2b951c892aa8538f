use Rattle.std.proofs.Common.{◌≡◌, ◌≤◌, length}
use Rattle.agency_wires.specs.Parts.{trim}
use Rattle.agency_wires.proofs.Trims.{trim_back}
use Rattle.agency_wires.proofs.parts.trimmed.Given as goal

abbrev pub invariant-loop-rest : goal.invariant-loop-rest
invariant-loop-rest l = record {
  ends : trim_back l.rest ≡ trim l.fn.told;
  within : length l.rest ≤ length l.fn.told;
}

abbrev pub decreases-loop-rest : goal.decreases-loop-rest
decreases-loop-rest l = length l.rest
