use Rattle.std.proofs.Common.{◌≡◌, false, drop}
use Rattle.agency_wires.specs.HeldWords.{has_held_word}
use Rattle.agency_wires.proofs.held_words.has_held_word.Given as goal

abbrev pub invariant-loop-i : goal.invariant-loop-i
invariant-loop-i l = has_held_word l.inside (drop l.i l.told) ≡ has_held_word false l.told
