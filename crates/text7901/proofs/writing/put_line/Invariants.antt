use Rattle.std.proofs.Common.{◌≡◌, ◌++◌, map}
use Rattle.text7901.specs.Written.{line_byte}
use Rattle.text7901.proofs.writing.put_line.Given as goal

abbrev pub invariant-loop-letter : goal.invariant-loop-letter
invariant-loop-letter l = l.out.items ≡ l.fn.out.items ++ map line_byte l.yielded
