use Rattle.std.proofs.Common.{◌≡◌, ◌++◌, take, drop}
use Rattle.agency_wires.specs.HeldWords.{run}
use Rattle.agency_wires.proofs.held_words.run.Given as goal

abbrev pub invariant-loop-i : goal.invariant-loop-i
invariant-loop-i l = take l.i l.told ++ run (drop l.i l.told) ≡ run l.told
