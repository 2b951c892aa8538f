use Rattle.std.proofs.Common.{◌≡◌, ◌++◌, drop}
use Rattle.std.specs.String.{string_bytes}
use Rattle.text7901.specs.Fields.{fitting}
use Rattle.agency_wires.proofs.parts.fitting_text.Given as goal

abbrev pub invariant-loop-letter : goal.invariant-loop-letter
invariant-loop-letter l = string_bytes l.string ++ fitting l.room (drop l.letter-index l.told) ≡ fitting l.fn.most l.told
