use Rattle.std.proofs.Common.{◌≡◌, ◌++◌, drop}
use Rattle.text7901.specs.Fields.{with_lf}
use Rattle.text7901.proofs.bytes.with_lf.Given as goal

abbrev pub invariant-loop-i : goal.invariant-loop-i
invariant-loop-i l = l.lines.items ++ with_lf (drop l.i l.bytes) ≡ with_lf l.bytes
