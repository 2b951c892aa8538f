use Rattle.std.proofs.Common.{◌≡◌, length}
use Rattle.agency_wires.specs.Parts.{trim_front}
use Rattle.agency_wires.proofs.parts.front_trimmed.Given as goal

abbrev pub invariant-loop-rest : goal.invariant-loop-rest
invariant-loop-rest l = trim_front l.rest ≡ trim_front l.fn.told

abbrev pub decreases-loop-rest : goal.decreases-loop-rest
decreases-loop-rest l = length l.rest
