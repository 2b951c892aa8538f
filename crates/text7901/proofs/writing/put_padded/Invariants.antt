use Rattle.std.proofs.Common.{◌≡◌, ◌++◌, replicate}
use Rattle.text7901.proofs.writing.put_padded.Given as goal

abbrev pub invariant-loop : goal.invariant-loop
invariant-loop l = l.out.items ≡ l.fn.out.items ++ replicate l.counter 48
