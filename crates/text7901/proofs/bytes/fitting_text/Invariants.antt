use Rattle.std.proofs.Common.{◌≡◌, ◌++◌, drop}
use Rattle.std.specs.String.{string_bytes}
use Rattle.text7901.specs.Fields.{fitting}
use Rattle.text7901.proofs.bytes.fitting_text.Given as goal

abbrev pub invariant-loop-byte : goal.invariant-loop-byte
invariant-loop-byte l = string_bytes l.string ++ fitting l.room (drop l.byte-index l.bytes) ≡ fitting l.fn.most l.bytes
