use Rattle.std.proofs.Common.{◌≡◌, ◌+◌, ◌++◌, All, ℕ, List, length}
use Rattle.text7901.specs.Limits.{FitsFound}
use Rattle.text7901.specs.Wire.{wire_from}
use Rattle.text7901.proofs.state.read_on.Given as goal

abbrev pub invariant-loop-gap : goal.invariant-loop-gap
invariant-loop-gap l = record {
  place : l.at + length l.rest ≡ l.fn.start + length l.fn.piece;
  made : All FitsFound l.made.items;
  members : (more : List ℕ) → l.made.items ++ wire_from l.at (l.rest ++ more) ≡ l.fn.made.items ++ wire_from l.fn.start (l.fn.piece ++ more);
}

abbrev pub decreases-loop-gap : goal.decreases-loop-gap
decreases-loop-gap l = length l.rest
