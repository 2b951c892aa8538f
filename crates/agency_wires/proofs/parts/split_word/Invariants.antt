use Rattle.std.proofs.Common.{◌≡◌, ◌++◌, drop, take}
use Rattle.agency_wires.specs.Parts.{front_word, behind_front_word}
use Rattle.agency_wires.proofs.parts.split_word.Given as goal

abbrev pub invariant-loop-i : goal.invariant-loop-i
invariant-loop-i l = record {
  front : take l.i l.told ++ front_word (drop l.i l.told) ≡ front_word l.told;
  back : behind_front_word (drop l.i l.told) ≡ behind_front_word l.told;
}
