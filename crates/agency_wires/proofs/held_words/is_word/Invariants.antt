use Rattle.std.proofs.Common.{◌≡◌, drop}
use Rattle.agency_wires.specs.HeldWords.{is_word}
use Rattle.agency_wires.proofs.held_words.is_word.Given as goal

abbrev pub invariant-loop-byte : goal.invariant-loop-byte
invariant-loop-byte l = is_word l.rest (drop l.byte-index l.upper) ≡ is_word l.word l.upper
