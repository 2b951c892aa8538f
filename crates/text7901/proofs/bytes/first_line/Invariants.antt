use Rattle.std.proofs.Common.{◌≡◌, ◌++◌, take, drop}
use Rattle.text7901.specs.Fields.{first_line}
use Rattle.text7901.proofs.bytes.first_line.Given as goal

abbrev pub invariant-loop-i : goal.invariant-loop-i
invariant-loop-i l = take l.i l.bytes ++ first_line (drop l.i l.bytes) ≡ first_line l.bytes
