use Rattle.std.proofs.Common.{◌≡◌, ◌++◌, drop}
use Rattle.std.specs.String.{string_bytes}
use Rattle.text7901.specs.Fields.{utf8}
use Rattle.agency_wires.proofs.parts.utf8_text.Given as goal

abbrev pub invariant-loop-letter : goal.invariant-loop-letter
invariant-loop-letter l = string_bytes l.string ++ utf8 (drop l.letter-index l.told) ≡ utf8 l.told
