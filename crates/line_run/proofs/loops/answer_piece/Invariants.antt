use Rattle.std.proofs.Common.{◌≡◌, ◌≤◌, ◌+◌, ℕ, List, length, take}
use Rattle.line_run.proofs.Piece.{PieceSoFar}
use Rattle.line_run.proofs.loops.answer_piece.Given as goal

abbrev pub invariant-loop-count : goal.invariant-loop-count
invariant-loop-count g l = record {
  stands : (shelf : g.A.Answering.Shelf) × ((h : List g.A.Answering.Entry) × (g.A.Answering.life shelf).stands l.machine h);
  short : length l.line.items ≤ l.longest + 2;
  so_far : (shelf : g.A.Answering.Shelf) (h : List g.A.Answering.Entry) (begun : List ℕ) → (g.A.Answering.life shelf).stands l.fn.machine h → l.fn.line.items ≡ take (l.longest + 2) begun
      → PieceSoFar (g.A.Answering.meaning shelf) (g.A.Answering.life shelf) g.O.Sink.sink l.longest l.fn.machine l.machine l.fn.output l.output h begun l.piece l.line.items l.rest;
  calm : g.A.Answering.faults l.machine ≡ g.A.Answering.faults l.fn.machine;
  calm_output : g.O.Sink.sink.faults l.output ≡ g.O.Sink.sink.faults l.fn.output;
}

abbrev pub decreases-loop-count : goal.decreases-loop-count
decreases-loop-count g l = length l.rest
