use Rattle.std.proofs.Common.{◌≡◌, take}
use Rattle.std.specs.Prelude.{flat_map}
use Rattle.http_wire.specs.Writing.{Wrote}
use Rattle.http_wire.proofs.respond.write_pieces.Given as goal

abbrev pub invariant-loop-piece : goal.invariant-loop-piece
invariant-loop-piece g l = record {
  told : g.O.Sink.sink.tells l.fn.sink → g.O.Sink.sink.tells l.sink;
  wrote : g.O.Sink.sink.tells l.fn.sink → Wrote g.O.Sink.sink l.fn.sink l.sink (flat_map (λ p. p.now) (take l.piece-index l.pieces)) l.page;
  calm : g.O.Sink.sink.faults l.sink ≡ g.O.Sink.sink.faults l.fn.sink;
}
