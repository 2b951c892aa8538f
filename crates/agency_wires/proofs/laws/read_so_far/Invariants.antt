use Rattle.std.proofs.Common.{◌≡◌, ◌++◌, ◌+◌, ℕ, List, take, length, false}
use Rattle.agency_wires.specs.Gives.{gives}
use Rattle.text7901.specs.Gives.{stream}
use Rattle.agency_wires.specs.Messages.{messages}
use Rattle.agency_wires.proofs.laws.read_so_far.Given as goal

abbrev pub invariant-loop-piece : goal.invariant-loop-piece
invariant-loop-piece l = record {
  open_yet : l.reader.ended ≡ false;
  place : l.reader.at ≡ l.fn.reader.at + length (stream (take l.piece-index l.pieces));
  members : (more : List ℕ) → l.out.items ++ gives l.reader more ≡ messages (stream (take l.piece-index l.pieces) ++ more);
}
