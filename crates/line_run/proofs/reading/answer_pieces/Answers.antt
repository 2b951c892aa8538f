use Rattle.std.proofs.Common.{◌≡◌, ◌++◌, [], ℕ, List, length, take, drop, refl, sym, ◌∙◌, ap, arith}
use Rattle.std.proofs.lemmas.List.{append-nil, length-take}
use Rattle.line_run.proofs.Inputs.{two_parts, one_over, read_starts, read_fails, read_goes_on, read_stops, read_too_long}
use Rattle.line_run.proofs.reading.answer_pieces.Goals as goal

pub pieces-init : goal.pieces-init
pieces-init g c = record {
  stands = c.requires.stands;
  within = omega arith;
  room = c.requires.room;
  so_far = λ shelf h stands. read_starts _ _ _ _ _ (g.M.Members.all shelf) _ _ _ _ _ h stands (g.met.M.Members.none shelf) c.requires.begins;
  calm = refl;
  calm_output = refl;
  calm_input = refl;
}

pub returns-in_default-clause-reads : goal.returns-in_default-clause-reads
returns-in_default-clause-reads g c = λ shelf h stands.
    read_fails _ _ _ _ _ (g.M.Members.all shelf) _ _ _ _ _ _ _ _ _ h _
    (c.pieces.invariant.so_far shelf h stands)
    c.read_piece.ensures.told c.in_default.ensures.err

pub returns-in-Err-clause-reads : goal.returns-in-Err-clause-reads
returns-in-Err-clause-reads g c = λ shelf h stands.
    let piece : List ℕ = c.read_piece.new.piece in
    let n : ℕ = c.in-Ok.count in
    let left : ℕ = c.pieces.left in
    let parts : take left piece ++ drop left (take n piece) ≡ take n piece = two_parts left n piece (omega arith) in
    read_stops _ _ _ _ _ (g.M.Members.all shelf) _ (c.in-Err.ensures.first shelf) _ _ _ _ _ _ _ _ _ _ h (take left piece) (drop left (take n piece)) _ _ _ _ _ _
    (c.pieces.invariant.so_far shelf h stands)
    c.read_piece.ensures.told
    (λ t. c.in-Ok.ensures.bytes t ∙ ap (λ (l : List ℕ). l ++ g.S.Source.source.ahead c.read_piece.new.input) (sym parts))
    (omega (arith, ap length parts, length-take n piece, c.in-Ok.ensures.within.1))
    c.in-Err.ensures.causes
    (c.in-Err.ensures.did shelf)

pub returns-then-count-left-clause-reads : goal.returns-then-count-left-clause-reads
returns-then-count-left-clause-reads g c = λ shelf h stands.
    let piece : List ℕ = c.read_piece.new.piece in
    let n : ℕ = c.in-Ok.count in
    let left : ℕ = c.pieces.left in
    let parts : take left piece ++ drop left (take n piece) ≡ take n piece = two_parts left n piece (omega arith) in
    read_too_long _ _ _ _ _ (g.M.Members.all shelf) _ _ _ _ _ _ _ _ _ _ _ h (take left piece) (drop left (take n piece)) _
    (c.pieces.invariant.so_far shelf h stands)
    c.read_piece.ensures.told
    (λ t. c.in-Ok.ensures.bytes t ∙ ap (λ (l : List ℕ). l ++ g.S.Source.source.ahead c.read_piece.new.input) (sym parts))
    (omega (arith, length-take left piece, c.in-Ok.ensures.within.0))
    (one_over left n piece (omega arith) (omega (arith, c.in-Ok.ensures.within.1)) (omega (arith, c.in-Ok.ensures.within.0)))
    (c.in_default-answer_piece.ensures.did shelf)

pub returns-in-Err-answer_piece-clause-reads : goal.returns-in-Err-answer_piece-clause-reads
returns-in-Err-answer_piece-clause-reads g c = λ shelf h stands.
    let piece : List ℕ = c.read_piece.new.piece in
    let n : ℕ = c.in-Ok.count in
    read_stops _ _ _ _ _ (g.M.Members.all shelf) _ (c.in-Err-answer_piece.ensures.first shelf) _ _ _ _ _ _ _ _ _ _ h (take n piece) [] _ _ _ _ _ _
    (c.pieces.invariant.so_far shelf h stands)
    c.read_piece.ensures.told
    (λ t. c.in-Ok.ensures.bytes t ∙ ap (λ (l : List ℕ). l ++ g.S.Source.source.ahead c.read_piece.new.input) (sym (append-nil (take n piece))))
    (omega (arith, ap length (append-nil (take n piece)), length-take n piece, c.in-Ok.ensures.within.1))
    c.in-Err-answer_piece.ensures.causes
    (c.in-Err-answer_piece.ensures.did shelf)

pub pieces-preserved : goal.pieces-preserved
pieces-preserved g c =
    let inv = c.pieces.invariant in
    let piece : List ℕ = c.read_piece.new.piece in
    let n : ℕ = c.in-Ok.count in
    let so_far = inv.so_far c.requires.stands.0 c.requires.stands.1.0 c.requires.stands.1.1 in
    let gain = c.in_default-answer_piece-2.ensures.did inv.stands.0 so_far.read so_far.reader in
    record {
      stands = (inv.stands.0, (_, (gain.2 inv.stands.1.0 inv.stands.1.1).kept.list));
      within = omega arith;
      room = omega (arith, c.read_piece.auto.piece, inv.room);
      so_far = λ shelf h stands. read_goes_on _ _ _ _ _ (g.M.Members.all shelf) _ _ _ _ _ _ _ _ _ _ _ _ h (take n piece) _ _
          (c.pieces.invariant.so_far shelf h stands)
          c.read_piece.ensures.told c.in-Ok.ensures.bytes
          (omega (arith, length-take n piece, c.in-Ok.ensures.within.0))
          (λ read is. c.in_default-answer_piece-2.ensures.taken read is)
          (c.in_default-answer_piece-2.ensures.did shelf);
      calm = c.in_default-answer_piece-2.ensures.causes.0 ∙ inv.calm;
      calm_output = c.in_default-answer_piece-2.ensures.causes.1 ∙ inv.calm_output;
      calm_input = c.in-Ok.ensures.count.calm ∙ inv.calm_input;
    }

pub answer_piece-requires-clause-begun : goal.answer_piece-requires-clause-begun
answer_piece-requires-clause-begun g c =
    let so_far = c.pieces.invariant.so_far c.requires.stands.0 c.requires.stands.1.0 c.requires.stands.1.1 in
    (so_far.read, so_far.reader, omega (arith, so_far.count, length-take c.pieces.left c.read_piece.new.piece))

pub answer_piece-requires-in-pieces-clause-begun : goal.answer_piece-requires-in-pieces-clause-begun
answer_piece-requires-in-pieces-clause-begun g c =
    let so_far = c.pieces.invariant.so_far c.requires.stands.0 c.requires.stands.1.0 c.requires.stands.1.1 in
    (so_far.read, so_far.reader, omega (arith, so_far.count, length-take c.in-Ok.count c.read_piece.new.piece))
