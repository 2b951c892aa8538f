use Rattle.std.proofs.Common.{◌≡◌, ◌-◌, ◌++◌, ◌∙◌, [], ℕ, List, length, take, drop, refl, sym, ap, arith}
use Rattle.std.proofs.lemmas.List.{append-nil, length-take}
use Rattle.line_run.proofs.Inputs.{two_parts, one_over}
use Rattle.frame_run.proofs.Pieces.{causes_then, ends_of, ends_early}
use Rattle.standby_files.proofs.Pieces.{read_starts, read_fails, read_ended, read_stops, read_too_long, read_goes_on}
use Rattle.standby_files.proofs.reading.answer_input.Goals as goal

pub pieces-init : goal.pieces-init
pieces-init g c = record {
  within = omega (arith, ap length c.requires.none);
  room = c.requires.room;
  so_far = λ b h. read_starts g.K.Keeper.keeper g.S.Source.source g.O.Sink.sink c.args.most c.args.input.now c.args.standby.now c.args.output.now b c.args.held.now.items c.requires.none h;
  calm = refl;
  calm_output = refl;
  calm_input = refl;
}

pub returns-in_default-clause-ran : goal.returns-in_default-clause-ran
returns-in_default-clause-ran g c = λ b h. read_fails g.K.Keeper.keeper g.S.Source.source g.O.Sink.sink c.args.most _ _ _ _ _ _ _ b _ _ (c.pieces.invariant.so_far b h) c.read_piece.ensures.told c.in_default.ensures.err

pub returns-then-count-eq0-clause-ran : goal.returns-then-count-eq0-clause-ran
returns-then-count-eq0-clause-ran g c = λ b h.
    read_ended g.K.Keeper.keeper g.S.Source.source g.O.Sink.sink c.args.most _ _ _ _ _ _ _ b _ _ c.read_piece.new.piece c.pieces.left c.in-Ok.count (c.args.most - c.pieces.left) c.ended.result (c.pieces.invariant.so_far b h)
    c.read_piece.ensures.told c.in-Ok.ensures.bytes (λ t. c.in-Ok.ensures.end t c.pieces.invariant.room c.if-count-eq0.true) c.if-count-eq0.true (omega (arith, c.pieces.invariant.within)) c.deref.ensures.value c.ended.ensures.ok c.ended.ensures.bad

pub returns-then-count-eq0-clause-ends : goal.returns-then-count-eq0-clause-ends
returns-then-count-eq0-clause-ends g c =
    ends_early _ _ _ _ _ _ _ _ c.ended.result (c.in-Ok.ensures.count.calm ∙ c.pieces.invariant.calm_input) c.pieces.invariant.calm c.pieces.invariant.calm_output c.ended.ensures.bad

pub returns-in-Err-clause-ran : goal.returns-in-Err-clause-ran
returns-in-Err-clause-ran g c = λ b h.
    let piece : List ℕ = c.read_piece.new.piece in
    let n : ℕ = c.in-Ok.count in
    let left : ℕ = c.pieces.left in
    let p = c.pieces.invariant.so_far b h in
    let parts : take left piece ++ drop left (take n piece) ≡ take n piece = two_parts left n piece (omega arith) in
    read_stops g.K.Keeper.keeper g.S.Source.source g.O.Sink.sink c.args.most _ _ _ _ _ _ _ _ _ b _ (take left piece) (drop left (take n piece)) left p
    (record {
      told = c.read_piece.ensures.told;
      bytes = λ t. c.in-Ok.ensures.bytes t ∙ ap (λ (l : List ℕ). l ++ g.S.Source.source.ahead c.read_piece.new.input) (sym parts);
      few = omega (arith, ap length parts, length-take n piece, c.in-Ok.ensures.within.1);
      within = omega (arith, length-take left piece);
    })
    c.in-Err.why (c.args.most - left - c.len.result) _ _ _ _ (omega (arith, p.count, c.len.ensures, c.pieces.held.ok.0, c.pieces.invariant.within)) c.in-Err.ensures.causes (c.in-Err.ensures.found _ p.done.kept.stands)

pub returns-in-Err-clause-ends : goal.returns-in-Err-clause-ends
returns-in-Err-clause-ends g c =
    ends_of _ _ _ _ _ _ c.in-Err.why (c.in-Ok.ensures.count.calm ∙ c.pieces.invariant.calm_input) (causes_then _ _ _ _ _ _ c.in-Err.why c.pieces.invariant.calm c.pieces.invariant.calm_output c.in-Err.ensures.causes)

pub returns-then-count-left-clause-ran : goal.returns-then-count-left-clause-ran
returns-then-count-left-clause-ran g c = λ b h.
    let piece : List ℕ = c.read_piece.new.piece in
    let n : ℕ = c.in-Ok.count in
    let left : ℕ = c.pieces.left in
    let p = c.pieces.invariant.so_far b h in
    let parts : take left piece ++ drop left (take n piece) ≡ take n piece = two_parts left n piece (omega arith) in
    read_too_long g.K.Keeper.keeper g.S.Source.source g.O.Sink.sink c.args.most _ _ _ _ _ _ _ _ _ b _ (take left piece) (drop left (take n piece)) left p
    (record {
      told = c.read_piece.ensures.told;
      bytes = λ t. c.in-Ok.ensures.bytes t ∙ ap (λ (l : List ℕ). l ++ g.S.Source.source.ahead c.read_piece.new.input) (sym parts);
      few = omega (arith, ap length parts, length-take n piece, c.in-Ok.ensures.within.1);
      within = omega (arith, length-take left piece);
    })
    _ (omega (arith, length-take left piece, c.in-Ok.ensures.within.0)) (one_over left n piece (omega arith) (omega (arith, c.in-Ok.ensures.within.1)) (omega (arith, c.in-Ok.ensures.within.0)))
    (c.in_default-answer_piece.ensures.found _ p.done.kept.stands)

pub returns-in-Err-answer_piece-clause-ran : goal.returns-in-Err-answer_piece-clause-ran
returns-in-Err-answer_piece-clause-ran g c = λ b h.
    let piece : List ℕ = c.read_piece.new.piece in
    let n : ℕ = c.in-Ok.count in
    let left : ℕ = c.pieces.left in
    let p = c.pieces.invariant.so_far b h in
    read_stops g.K.Keeper.keeper g.S.Source.source g.O.Sink.sink c.args.most _ _ _ _ _ _ _ _ _ b _ (take n piece) [] left p
    (record {
      told = c.read_piece.ensures.told;
      bytes = λ t. c.in-Ok.ensures.bytes t ∙ ap (λ (l : List ℕ). l ++ g.S.Source.source.ahead c.read_piece.new.input) (sym (append-nil (take n piece)));
      few = omega (arith, ap length (append-nil (take n piece)), length-take n piece, c.in-Ok.ensures.within.1);
      within = omega (arith, length-take n piece);
    })
    c.in-Err-answer_piece.why (c.args.most - left - c.len.result) _ _ _ _ (omega (arith, p.count, c.len.ensures, c.pieces.held.ok.0, c.pieces.invariant.within)) c.in-Err-answer_piece.ensures.causes (c.in-Err-answer_piece.ensures.found _ p.done.kept.stands)

pub returns-in-Err-answer_piece-clause-ends : goal.returns-in-Err-answer_piece-clause-ends
returns-in-Err-answer_piece-clause-ends g c =
    ends_of _ _ _ _ _ _ c.in-Err-answer_piece.why (c.in-Ok.ensures.count.calm ∙ c.pieces.invariant.calm_input) (causes_then _ _ _ _ _ _ c.in-Err-answer_piece.why c.pieces.invariant.calm c.pieces.invariant.calm_output c.in-Err-answer_piece.ensures.causes)

pub pieces-preserved : goal.pieces-preserved
pieces-preserved g c =
    let inv = c.pieces.invariant in
    let piece : List ℕ = c.read_piece.new.piece in
    let n : ℕ = c.in-Ok.count in
    record {
      within = omega (arith, inv.within, c.in_default-answer_piece-2.ensures.within, length-take n piece);
      room = omega (arith, c.read_piece.auto.piece, inv.room);
      so_far = λ b h. read_goes_on g.K.Keeper.keeper g.S.Source.source g.O.Sink.sink c.args.most _ _ _ _ _ _ _ _ _ b _ (take n piece) _ _ _
          (inv.so_far b h) c.read_piece.ensures.told c.in-Ok.ensures.bytes (omega (arith, length-take n piece, c.in-Ok.ensures.within.0)) c.in_default-answer_piece-2.ensures.found;
      calm = c.in_default-answer_piece-2.ensures.causes.0 ∙ inv.calm;
      calm_output = c.in_default-answer_piece-2.ensures.causes.1 ∙ inv.calm_output;
      calm_input = c.in-Ok.ensures.count.calm ∙ inv.calm_input;
    }
