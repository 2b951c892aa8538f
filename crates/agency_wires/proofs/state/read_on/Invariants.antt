use Rattle.std.proofs.Common.{◌≡◌, ◌+◌, ◌++◌, ℕ, List, length}
use Rattle.agency_wires.specs.Messages.{messages_from}
use Rattle.agency_wires.proofs.state.read_on.Given as goal

abbrev pub invariant-loop-gap : goal.invariant-loop-gap
invariant-loop-gap l = record {
  place : l.at + length l.rest ≡ l.fn.start + length l.fn.piece;
  members : (more : List ℕ) → l.made.items ++ messages_from l.at (l.rest ++ more) ≡ l.fn.made.items ++ messages_from l.fn.start (l.fn.piece ++ more);
}

abbrev pub decreases-loop-gap : goal.decreases-loop-gap
decreases-loop-gap l = length l.rest
