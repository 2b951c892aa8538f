use Rattle.std.proofs.Common.{None, Some, refl, sym, subst, ap}
use Rattle.std.specs.Option.{option_map}
use Rattle.line_run.specs.Step.{IsStep}
use Rattle.desk_lines.specs.declared.property.LineProperty.TheVariants as property
use Rattle.room_runs.specs.Lines.{of_line, of_read, of_asked}
use Rattle.room_runs.specs.Desk.{line_hand}
use Rattle.room_runs.specs.Life.{life}
use Rattle.room_runs.proofs.Calls.{bad_step, starved_step, text_counts}
use Rattle.room_runs.proofs.Desks.{by_meaning}
use Rattle.room_runs.proofs.desk.LineDeskAnswering.answer.Goals as goal

pub returns-in_default-clause-step : goal.returns-in_default-clause-step
returns-in_default-clause-step g c s h stands =
    subst (λ o. IsStep (of_line s.before) (life g.K.Keeper.keeper g.C.Clock.clock line_hand s) c.args.self.now c.args.self.now h (option_map (λ l. l.now) o) c.bad_line.result) (sym c.in_default.is)
    (bad_step line_hand g.K.Keeper.keeper g.C.Clock.clock s (of_line s.before) c.args.self.now h None property.Line c.bad_line.result refl stands c.bad_line.ensures)

pub returns-in_default-clause-count : goal.returns-in_default-clause-count
returns-in_default-clause-count g c = text_counts _ _ _ c.bad_line.result refl c.bad_line.ensures

pub answer_asked-requires-clause-stands : goal.answer_asked-requires-clause-stands
answer_asked-requires-clause-stands g c = c.requires

pub answer_asked-requires-clause-fits : goal.answer_asked-requires-clause-fits
answer_asked-requires-clause-fits g c = c.in-Ok.ensures.fits

pub returns-in-Ok-clause-step : goal.returns-in-Ok-clause-step
returns-in-Ok-clause-step g c s h stands =
    subst (λ o. IsStep (of_line s.before) (life g.K.Keeper.keeper g.C.Clock.clock line_hand s) c.args.self.now c.answer_asked.new.self h (option_map (λ l. l.now) o) c.answer_asked.result) (sym c.in-Some.is)
    (by_meaning (life g.K.Keeper.keeper g.C.Clock.clock line_hand s) (of_line s.before) (of_asked s.before) c.args.self.now c.answer_asked.new.self h (Some c.in-Some.bytes.now) c.in-Ok.asked (λ at. ap (λ r. of_read s.before h r at) c.in-Ok.ensures.value) c.answer_asked.result
    (c.answer_asked.ensures.step s h stands))

pub returns-in-Ok-clause-count : goal.returns-in-Ok-clause-count
returns-in-Ok-clause-count g c = c.answer_asked.ensures.count

pub returns-in-Err-Bad-clause-step : goal.returns-in-Err-Bad-clause-step
returns-in-Err-Bad-clause-step g c s h stands =
    subst (λ o. IsStep (of_line s.before) (life g.K.Keeper.keeper g.C.Clock.clock line_hand s) c.args.self.now c.args.self.now h (option_map (λ l. l.now) o) c.bad_line-in-Err-Bad.result) (sym c.in-Some.is)
    (bad_step line_hand g.K.Keeper.keeper g.C.Clock.clock s (of_line s.before) c.args.self.now h (Some c.in-Some.bytes.now) c.in-Err-Bad.property c.bad_line-in-Err-Bad.result
    (ap (λ r. of_read s.before h r 0) (rw c.in-Err-Bad.field-0-is at c.in-Err-Bad.ensures.value)) stands c.bad_line-in-Err-Bad.ensures)

pub returns-in-Err-Bad-clause-count : goal.returns-in-Err-Bad-clause-count
returns-in-Err-Bad-clause-count g c = text_counts _ _ _ c.bad_line-in-Err-Bad.result refl c.bad_line-in-Err-Bad.ensures

pub returns-in-Err-Memory-clause-step : goal.returns-in-Err-Memory-clause-step
returns-in-Err-Memory-clause-step g c s h stands =
    starved_step line_hand g.K.Keeper.keeper g.C.Clock.clock s (of_line s.before) c.args.self.now h (option_map (λ l. l.now) c.args.line) stands

pub returns-in-Err-Memory-clause-count : goal.returns-in-Err-Memory-clause-count
returns-in-Err-Memory-clause-count g c = refl
