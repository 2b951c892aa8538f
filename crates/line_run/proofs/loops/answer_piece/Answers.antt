use Rattle.std.proofs.Common.{◌≡◌, ◌+◌, [], ℕ, List, length, drop, refl, ◌∙◌, ap, subst, arith}
use Rattle.input_lines.specs.Lines.{unless_empty, without_cr}
use Rattle.line_run.specs.Turns.{AnsweredAll, AnsweredSome}
use Rattle.line_run.proofs.Piece.{PieceSoFar, piece_starts, piece_next, piece_stops, piece_memory, piece_ends, piece_open}
use Rattle.line_run.proofs.loops.answer_piece.Goals as goal

pub loop-count-init : goal.loop-count-init
loop-count-init g c = record {
  stands = c.requires.stands;
  short = c.requires.short;
  so_far = λ shelf h begun stands is. piece_starts _ _ _ _ _ _ h begun _ _ stands is;
  calm = refl;
  calm_output = refl;
}

pub returns-in-Err-clause-did : goal.returns-in-Err-clause-did
returns-in-Err-clause-did g c = λ shelf h begun stands is. piece_memory _ _ _ _ _ _ _ _ h begun _ _ _ _ (λ none. none) (c.loop-count.invariant.so_far shelf h begun stands is)

pub returns-in-Err-answer_some-clause-did : goal.returns-in-Err-answer_some-clause-did
returns-in-Err-answer_some-clause-did g c = λ shelf h begun stands is.
    let line : c.without_return.result.now ≡ without_cr c.extend_line.new.line.items = c.without_return.ensures ∙ ap without_cr c.deref.ensures.value in
    piece_stops _ _ _ _ _ _ _ _ _ _ h begun _ _ _ _ _ _ (c.loop-count.invariant.so_far shelf h begun stands is) c.in-Some.ensures c.in_default-extend_line.ensures.kept
    (λ k here. subst (λ (l : List ℕ). AnsweredSome (g.A.Answering.meaning shelf) (g.A.Answering.life shelf) g.O.Sink.sink c.loop-count.machine c.answer_some.new.machine c.loop-count.output c.answer_some.new.output k (unless_empty c.args.longest l) c.in-Err-answer_some.why) line (c.in-Err-answer_some.ensures.did shelf k here))

pub loop-count-preserved : goal.loop-count-preserved
loop-count-preserved g c =
    let inv = c.loop-count.invariant in
    let line : c.without_return.result.now ≡ without_cr c.extend_line.new.line.items = c.without_return.ensures ∙ ap without_cr c.deref.ensures.value in
    record {
      stands = (inv.stands.0, (_, (c.in_default-answer_some.ensures.did inv.stands.0 inv.stands.1.0 inv.stands.1.1).kept.list));
      short = omega (arith, ap length c.clear.ensures.items);
      so_far = λ shelf h begun stands is.
          let next : PieceSoFar (g.A.Answering.meaning shelf) (g.A.Answering.life shelf) g.O.Sink.sink c.args.longest c.args.machine.now c.answer_some.new.machine c.args.output.now c.answer_some.new.output h begun c.args.piece.now [] (drop (c.in-Some.count + 1) c.loop-count.rest.now) =
          piece_next _ _ _ _ _ _ _ _ _ _ h begun _ _ _ _ _ (inv.so_far shelf h begun stands is) c.in-Some.ensures c.in_default-extend_line.ensures.kept
          (λ k here. subst (λ (l : List ℕ). AnsweredAll (g.A.Answering.meaning shelf) (g.A.Answering.life shelf) g.O.Sink.sink c.loop-count.machine c.answer_some.new.machine c.loop-count.output c.answer_some.new.output k (unless_empty c.args.longest l)) line (c.in_default-answer_some.ensures.did shelf k here)) in
          rw (c.clear.ensures.items, c.behind-rest.ensures) next;
      calm = c.in_default-answer_some.ensures.causes.0 ∙ inv.calm;
      calm_output = c.in_default-answer_some.ensures.causes.1 ∙ inv.calm_output;
    }

pub returns-in-Err-extend_line-clause-did : goal.returns-in-Err-extend_line-clause-did
returns-in-Err-extend_line-clause-did g c = λ shelf h begun stands is. piece_memory _ _ _ _ _ _ _ _ h begun _ _ _ _ (λ none. none) (c.loop-count.invariant.so_far shelf h begun stands is)

pub returns-clause-open : goal.returns-clause-open
returns-clause-open g c = λ begun is.
    piece_open _ _ _ _ _ _ _ _ _ begun _ _ _ _ (c.loop-count.invariant.so_far c.requires.stands.0 c.requires.stands.1.0 begun c.requires.stands.1.1 is) c.in_default.ensures c.in_default-extend_line-2.ensures.kept

pub returns-clause-did : goal.returns-clause-did
returns-clause-did g c = λ shelf h begun stands is. piece_ends _ _ _ _ _ _ _ _ h begun _ _ _ (c.loop-count.invariant.so_far shelf h begun stands is) c.in_default.ensures
