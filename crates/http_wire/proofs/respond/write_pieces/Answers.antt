use Rattle.std.proofs.Common.{List, ℕ, ◌++◌, ◌≡◌, subst, Bor, OnOk}
use Rattle.std.specs.Prelude.{flat_map}
use Rattle.std.proofs.lemmas.List.{take_all}
use Rattle.http_wire.specs.Writing.{Wrote}
use Rattle.http_wire.proofs.Texts.{at_piece}
use Rattle.http_wire.proofs.Writes.{stops_early, then_all, from_all}
use Rattle.http_wire.proofs.respond.write_pieces.Goals as goal

pub returns-in_err-put-clause-wrote : goal.returns-in_err-put-clause-wrote
returns-in_err-put-clause-wrote g c tells =
    stops_early g.O.Sink.sink c.args.sink.now c.loop-piece.sink c.put.new.sink _ _ _ _ _ c.from_residual.result c.from_residual.ensures.0
    (at_piece (λ (p : Bor (List ℕ)). p.now) c.args.pieces.now c.loop-piece.piece-index _ c.loop-piece-test.true)
    (c.loop-piece.invariant.wrote tells) (c.in_err-put.ensures.wrote (c.loop-piece.invariant.told tells))

pub returns-clause-wrote : goal.returns-clause-wrote
returns-clause-wrote g c tells =
    let now = λ (p : Bor (List ℕ)). p.now in
    let mid = c.loop-piece.invariant.told tells in
    let all = subst (λ (ps : List (Bor (List ℕ))). Wrote g.O.Sink.sink c.args.sink.now c.loop-piece.sink (flat_map now ps) c.loop-piece.page)
    (take_all c.loop-piece.piece-index c.args.pieces.now c.loop-piece-test.false) (c.loop-piece.invariant.wrote tells) in
    then_all g.O.Sink.sink c.args.sink.now c.loop-piece.sink c.write_all.new.sink _ c.loop-piece.page c.write_all.result all
    (subst (λ (l : List ℕ). OnOk c.write_all.result (g.O.Sink.sink.taken c.write_all.new.sink ≡ g.O.Sink.sink.taken c.loop-piece.sink ++ l)) c.as_slice.ensures (c.write_all.ensures.ok mid))
    (from_all g.O.Sink.sink c.loop-piece.sink c.write_all.new.sink c.as_slice.result.now c.loop-piece.page c.write_all.result mid c.as_slice.ensures c.write_all.ensures.err)
