use Rattle.std.proofs.Common.{◌≡◌, length}
use Rattle.text7901.specs.Fields.{trim_front}
use Rattle.text7901.proofs.bytes.front_trimmed.Given as goal

abbrev pub invariant-loop-rest : goal.invariant-loop-rest
invariant-loop-rest l = trim_front l.rest ≡ trim_front l.fn.bytes

abbrev pub decreases-loop-rest : goal.decreases-loop-rest
decreases-loop-rest l = length l.rest
