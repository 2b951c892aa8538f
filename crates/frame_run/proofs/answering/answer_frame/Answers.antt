use Rattle.std.proofs.Common.{◌≡◌, ℕ, List, take, sym, ◌∙◌, ap}
use Rattle.run_status.proofs.Tellings.{wrote_is}
use Rattle.feed_receiver.specs.Takes.{numbers}
use Rattle.frame_run.specs.Answers.{behind, holding, receipt_for}
use Rattle.frame_run.proofs.Steps.{Went, went, stopped, answered_all, answered_some, stop_causes, calm_counts}
use Rattle.frame_run.proofs.answering.answer_frame.Goals as goal

pub returns-in-Err-clause-did : goal.returns-in-Err-clause-did
returns-in-Err-clause-did g c = λ b h f a.
    stopped g.K.Keeper.keeper c.args.receiver.now c.take-taken.new.self b h f c.args.frame.now a c.take-taken.ensures.label g.O.Sink.sink c.args.output.now c.take-taken.result c.in-Err.why (sym c.in-Err.ensures)
    (record { step = c.take-taken.ensures.step; counts = c.take-taken.ensures.counts; doubts = c.take-taken.ensures.doubts; crash = c.take-taken.ensures.crash })

pub returns-in-Err-clause-causes : goal.returns-in-Err-clause-causes
returns-in-Err-clause-causes g c =
    stop_causes (numbers g.K.Keeper.keeper c.args.receiver.now.keeper) (numbers g.K.Keeper.keeper c.take-taken.new.self.keeper) c.args.frame.now c.take-taken.result c.in-Err.why (g.O.Sink.sink.faults c.args.output.now) (sym c.in-Err.ensures) c.take-taken.ensures.counts

pub returns-in-Err-write_through-clause-did : goal.returns-in-Err-write_through-clause-did
returns-in-Err-write_through-clause-did g c = λ b h f a.
    let w : Went g.K.Keeper.keeper c.args.receiver.now c.take-taken.new.self b f =
    went g.K.Keeper.keeper c.args.receiver.now c.take-taken.new.self b h f c.args.frame.now a c.take-taken.ensures.label c.take-taken.result c.in_default.field-0 (sym c.in_default.ensures)
    (record { step = c.take-taken.ensures.step; counts = c.take-taken.ensures.counts; doubts = c.take-taken.ensures.doubts; crash = c.take-taken.ensures.crash }) in
    let line : c.as_slice.result.now ≡ receipt_for b.name b.frames f = c.as_slice.ensures.value ∙ c.receipt.ensures (holding (behind b.name b.frames f) b) w.kept.list in
    let some = c.in-Err-write_through.ensures.err in (
      tt,
      answered_some g.K.Keeper.keeper c.args.receiver.now c.take-taken.new.self b h f c.args.frame.now a c.take-taken.ensures.label g.O.Sink.sink c.args.output.now c.write_through.new.sink w some.0
          (wrote_is _ _ _ _ _ (ap (λ (l : List ℕ). take some.0 l) line) (record { told = c.write_through.ensures.told; bytes = some.2 })) c.write_through.ensures.kept,
    )

pub returns-in-Err-write_through-clause-causes : goal.returns-in-Err-write_through-clause-causes
returns-in-Err-write_through-clause-causes g c = (
  calm_counts (numbers g.K.Keeper.keeper c.args.receiver.now.keeper) (numbers g.K.Keeper.keeper c.take-taken.new.self.keeper) c.args.frame.now c.take-taken.result c.in_default.field-0 (sym c.in_default.ensures) c.take-taken.ensures.counts,
  c.in-Err-write_through.ensures.count.failed,
)

pub returns-clause-did : goal.returns-clause-did
returns-clause-did g c = λ b h f a.
    let w : Went g.K.Keeper.keeper c.args.receiver.now c.take-taken.new.self b f =
    went g.K.Keeper.keeper c.args.receiver.now c.take-taken.new.self b h f c.args.frame.now a c.take-taken.ensures.label c.take-taken.result c.in_default.field-0 (sym c.in_default.ensures)
    (record { step = c.take-taken.ensures.step; counts = c.take-taken.ensures.counts; doubts = c.take-taken.ensures.doubts; crash = c.take-taken.ensures.crash }) in
    let line : c.as_slice.result.now ≡ receipt_for b.name b.frames f = c.as_slice.ensures.value ∙ c.receipt.ensures (holding (behind b.name b.frames f) b) w.kept.list in
    answered_all g.K.Keeper.keeper c.args.receiver.now c.take-taken.new.self b h f c.args.frame.now a c.take-taken.ensures.label g.O.Sink.sink c.args.output.now c.write_through.new.sink w
    (wrote_is _ _ _ _ _ line (record { told = c.write_through.ensures.told; bytes = c.in_default-write_through.ensures.ok })) c.in_default-write_through.ensures.passed

pub returns-clause-causes : goal.returns-clause-causes
returns-clause-causes g c = (
  calm_counts (numbers g.K.Keeper.keeper c.args.receiver.now.keeper) (numbers g.K.Keeper.keeper c.take-taken.new.self.keeper) c.args.frame.now c.take-taken.result c.in_default.field-0 (sym c.in_default.ensures) c.take-taken.ensures.counts,
  c.in_default-write_through.ensures.count.calm,
)
