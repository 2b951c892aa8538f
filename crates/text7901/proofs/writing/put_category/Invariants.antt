use Rattle.std.proofs.Common.{◌≡◌, ◌++◌, take}
use Rattle.std.specs.List.{filter}
use Rattle.text7901.specs.Fields.{letter}
use Rattle.text7901.proofs.writing.put_category.Given as goal

abbrev pub invariant-loop-byte : goal.invariant-loop-byte
invariant-loop-byte l = l.out.items ≡ l.fn.out.items ++ filter letter (take l.byte-index l.byte-items)
