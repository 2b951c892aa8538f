use Rattle.std.proofs.Common.{◌≡◌, take}
use Rattle.std.specs.String.{string_bytes}
use Rattle.text7901.specs.Fields.{utf8}
use Rattle.text7901.proofs.bytes.utf8_text.Given as goal

abbrev pub invariant-loop-byte : goal.invariant-loop-byte
invariant-loop-byte l = string_bytes l.string ≡ utf8 (take l.byte-index l.bytes)
