use Rattle.std.proofs.Common.{◌≡◌, length}
use Rattle.text7901.specs.Fields.{trim}
use Rattle.text7901.proofs.Parts.{trim_back}
use Rattle.text7901.proofs.bytes.trimmed.Given as goal

abbrev pub invariant-loop-rest : goal.invariant-loop-rest
invariant-loop-rest l = trim_back l.rest ≡ trim l.fn.bytes

abbrev pub decreases-loop-rest : goal.decreases-loop-rest
decreases-loop-rest l = length l.rest
