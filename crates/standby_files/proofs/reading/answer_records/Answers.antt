use Rattle.std.proofs.Common.{ℕ, refl, subst}
use Rattle.std.proofs.lemmas.Result.{err_from_is_err_and}
use Rattle.line_run.proofs.Inputs.{flushed}
use Rattle.frame_run.specs.Run.{Ends}
use Rattle.standby_files.proofs.Pieces.{ran_nothing, ran_unwritten, ran_begun, ran_passed}
use Rattle.standby_files.proofs.reading.answer_records.Goals as goal

pub returns-in-Err-clause-ran : goal.returns-in-Err-clause-ran
returns-in-Err-clause-ran g c = λ b h.
    ran_unwritten g.K.Keeper.keeper g.S.Source.source g.O.Sink.sink c.args.most c.args.input.now c.args.standby.now c.args.output.now c.flush.new.self b h (flushed g.O.Sink.sink c.args.output.now c.flush.new.self c.flush.ensures.told c.flush.ensures.same) c.flush.ensures.kept

pub returns-in_err-piece-clause-ran : goal.returns-in_err-piece-clause-ran
returns-in_err-piece-clause-ran g c =
    let p = err_from_is_err_and c.from_residual.result c.from_residual.ensures.1 in
    λ b h. rw (p.1, p.2)
    (ran_begun g.K.Keeper.keeper g.O.Sink.sink c.args.most c.args.standby.now c.args.standby.now c.args.output.now c.flush.new.self c.flush.new.self b
    (flushed g.O.Sink.sink c.args.output.now c.flush.new.self c.flush.ensures.told c.flush.ensures.same) c.in_default.ensures.passed g.S.Source.source c.args.input.now c.args.input.now _
    (ran_nothing g.K.Keeper.keeper g.S.Source.source g.O.Sink.sink c.args.most c.args.input.now c.args.standby.now c.flush.new.self b h))

pub returns-in_err-piece-clause-ends : goal.returns-in_err-piece-clause-ends
returns-in_err-piece-clause-ends g c = let p = err_from_is_err_and c.from_residual.result c.from_residual.ensures.1 in rw (p.1, p.2) (refl, (refl, c.in_default.ensures.count.calm))

pub returns-in_err-piece-clause-passed : goal.returns-in_err-piece-clause-passed
returns-in_err-piece-clause-passed g c = λ b h t n. c.in_default.ensures.passed t

pub returns-clause-ran : goal.returns-clause-ran
returns-clause-ran g c = λ b h.
    ran_begun g.K.Keeper.keeper g.O.Sink.sink c.args.most c.args.standby.now c.answer_input.new.standby c.args.output.now c.flush.new.self c.answer_input.new.output b
    (flushed g.O.Sink.sink c.args.output.now c.flush.new.self c.flush.ensures.told c.flush.ensures.same) c.in_default.ensures.passed g.S.Source.source c.args.input.now c.answer_input.new.input c.answer_input.result (c.answer_input.ensures.ran b h)

pub returns-clause-ends : goal.returns-clause-ends
returns-clause-ends g c =
    subst
    (λ (n : ℕ). Ends (g.S.Source.source.faults c.args.input.now) (g.S.Source.source.faults c.answer_input.new.input) (g.K.Keeper.keeper.faults c.args.standby.now.keeper) (g.K.Keeper.keeper.faults c.answer_input.new.standby.keeper) n (g.O.Sink.sink.faults c.answer_input.new.output) c.answer_input.result)
    c.in_default.ensures.count.calm c.answer_input.ensures.ends

pub returns-clause-passed : goal.returns-clause-passed
returns-clause-passed g c = λ b h t n.
    ran_passed g.K.Keeper.keeper g.O.Sink.sink c.args.most c.args.standby.now c.answer_input.new.standby c.flush.new.self c.answer_input.new.output b g.S.Source.source c.args.input.now c.answer_input.new.input c.answer_input.result n
    (c.answer_input.ensures.ran b h) (c.flush.ensures.told t) (c.in_default.ensures.passed t)
