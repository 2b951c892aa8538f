use Rattle.std.proofs.Common.{◌≡◌, ◌≤◌, ◌<◌, List, length}
use Rattle.line_run.specs.Run.{ReadSoFar}
use Rattle.line_run.proofs.reading.answer_pieces.Given as goal

abbrev pub invariant-pieces : goal.invariant-pieces
invariant-pieces g l = record {
  stands : (shelf : g.M.Members.Shelf) × ((h : List g.M.Members.Entry) × (g.M.Members.life shelf).stands l.members h);
  within : l.left ≤ l.most;
  room : 0 < length l.piece;
  so_far : (shelf : g.M.Members.Shelf) (h : List g.M.Members.Entry) → (g.M.Members.life shelf).stands l.fn.members h
      → ReadSoFar (g.M.Members.meaning shelf) (g.M.Members.life shelf) g.S.Source.source g.O.Sink.sink (g.M.Members.decided shelf) l.most (g.M.Members.has_read l.members) l.fn.input l.input l.fn.members l.members l.fn.output l.output h l.left;
  calm : g.M.Members.faults l.members ≡ g.M.Members.faults l.fn.members;
  calm_output : g.O.Sink.sink.faults l.output ≡ g.O.Sink.sink.faults l.fn.output;
  calm_input : g.S.Source.source.faults l.input ≡ g.S.Source.source.faults l.fn.input;
}

abbrev pub decreases-pieces : goal.decreases-pieces
decreases-pieces g l = l.left
