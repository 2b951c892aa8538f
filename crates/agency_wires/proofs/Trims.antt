-- Blanks at the end, as a loop takes them off.
use Rattle.std.proofs.Common.{ℕ, List, reverse}
use Rattle.agency_wires.specs.Parts.{trim_front}

abbrev pub trim_back : List ℕ → List ℕ
trim_back xs = reverse (trim_front (reverse xs))
