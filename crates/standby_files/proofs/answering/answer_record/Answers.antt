use Rattle.std.proofs.Common.{◌≡◌, ◌+◌, ◌∙◌, ℕ, List, length, take, sym, ap, arith}
use Rattle.run_status.proofs.Tellings.{wrote_is}
use Rattle.standby_files.specs.Answers.{behind, holding, reply_to}
use Rattle.standby_files.proofs.Steps.{Went, went, stopped, answered_all, answered_some, stop_causes, calm_counts, stands_count}
use Rattle.standby_files.proofs.answering.answer_record.Goals as goal

pub overflow_add-head : goal.overflow_add-head
overflow_add-head g c = omega (arith, c.requires, c.payload_place.ensures.within)

pub returns-in-Err-clause-did : goal.returns-in-Err-clause-did
returns-in-Err-clause-did g c = λ b h r a.
    stopped g.K.Keeper.keeper c.args.standby.now c.take-answer.new.self b h r c.args.line.now a g.O.Sink.sink c.args.output.now
    (c.args.begun + c.payload_place.result) (c.args.begun + length c.args.line.now) (omega (arith, c.payload_place.ensures.place r a)) (omega (arith, c.requires))
    c.take-answer.result c.in-Err.why (sym c.in-Err.ensures)
    (record { step = c.take-answer.ensures.step; uses = c.take-answer.ensures.uses; label = c.take-answer.ensures.label; doubts = c.take-answer.ensures.doubts; crash = c.take-answer.ensures.crash })

pub returns-in-Err-clause-causes : goal.returns-in-Err-clause-causes
returns-in-Err-clause-causes g c =
    stop_causes (g.K.Keeper.keeper.faults c.args.standby.now.keeper) (g.K.Keeper.keeper.faults c.take-answer.new.self.keeper) (c.args.begun + c.payload_place.result) c.take-answer.result c.in-Err.why (g.O.Sink.sink.faults c.args.output.now) (sym c.in-Err.ensures) c.take-answer.ensures.faults

pub returns-in-Err-write_through-clause-did : goal.returns-in-Err-write_through-clause-did
returns-in-Err-write_through-clause-did g c = λ b h r a.
    let w : Went g.K.Keeper.keeper c.args.standby.now c.take-answer.new.self b r =
    went g.K.Keeper.keeper c.args.standby.now c.take-answer.new.self b h r c.args.line.now a (c.args.begun + c.payload_place.result) c.take-answer.result c.in_default.field-0 (sym c.in_default.ensures)
    (record { step = c.take-answer.ensures.step; uses = c.take-answer.ensures.uses; label = c.take-answer.ensures.label; doubts = c.take-answer.ensures.doubts; crash = c.take-answer.ensures.crash }) in
    let line : c.as_slice.result.now ≡ reply_to b.held r = c.as_slice.ensures.value ∙ stands_count g.K.Keeper.keeper c.take-answer.new.self (holding (behind b.held r) b) w.kept.stands c.kept.result c.kept.ensures in
    let some = c.in-Err-write_through.ensures.err in (
      tt,
      answered_some g.K.Keeper.keeper c.args.standby.now c.take-answer.new.self b h r c.args.line.now a g.O.Sink.sink c.args.output.now c.write_through.new.sink w some.0
          (wrote_is _ _ _ _ _ (ap (λ (l : List ℕ). take some.0 l) line) (record { told = c.write_through.ensures.told; bytes = some.2 })) c.write_through.ensures.kept,
    )

pub returns-in-Err-write_through-clause-causes : goal.returns-in-Err-write_through-clause-causes
returns-in-Err-write_through-clause-causes g c = (
  calm_counts (g.K.Keeper.keeper.faults c.args.standby.now.keeper) (g.K.Keeper.keeper.faults c.take-answer.new.self.keeper) (c.args.begun + c.payload_place.result) c.take-answer.result c.in_default.field-0 (sym c.in_default.ensures) c.take-answer.ensures.faults,
  c.in-Err-write_through.ensures.count.failed,
)

pub returns-clause-did : goal.returns-clause-did
returns-clause-did g c = λ b h r a.
    let w : Went g.K.Keeper.keeper c.args.standby.now c.take-answer.new.self b r =
    went g.K.Keeper.keeper c.args.standby.now c.take-answer.new.self b h r c.args.line.now a (c.args.begun + c.payload_place.result) c.take-answer.result c.in_default.field-0 (sym c.in_default.ensures)
    (record { step = c.take-answer.ensures.step; uses = c.take-answer.ensures.uses; label = c.take-answer.ensures.label; doubts = c.take-answer.ensures.doubts; crash = c.take-answer.ensures.crash }) in
    let line : c.as_slice.result.now ≡ reply_to b.held r = c.as_slice.ensures.value ∙ stands_count g.K.Keeper.keeper c.take-answer.new.self (holding (behind b.held r) b) w.kept.stands c.kept.result c.kept.ensures in
    answered_all g.K.Keeper.keeper c.args.standby.now c.take-answer.new.self b h r c.args.line.now a g.O.Sink.sink c.args.output.now c.write_through.new.sink w
    (wrote_is _ _ _ _ _ line (record { told = c.write_through.ensures.told; bytes = c.in_default-write_through.ensures.ok })) c.in_default-write_through.ensures.passed

pub returns-clause-causes : goal.returns-clause-causes
returns-clause-causes g c = (
  calm_counts (g.K.Keeper.keeper.faults c.args.standby.now.keeper) (g.K.Keeper.keeper.faults c.take-answer.new.self.keeper) (c.args.begun + c.payload_place.result) c.take-answer.result c.in_default.field-0 (sym c.in_default.ensures) c.take-answer.ensures.faults,
  c.in_default-write_through.ensures.count.calm,
)
