use Rattle.std.proofs.Common.{◌≡◌, drop}
use Rattle.agency_wires.specs.Parts.{is_within}
use Rattle.agency_wires.proofs.parts.is_within.Given as goal

abbrev pub invariant-loop-letter : goal.invariant-loop-letter
invariant-loop-letter l = is_within l.room (drop l.letter-index l.told) ≡ is_within l.fn.most l.told
