use Rattle.std.proofs.Common.{None, Some, refl, sym, subst, ap}
use Rattle.std.specs.Option.{option_map}
use Rattle.line_run.specs.Step.{IsStep}
use Rattle.list_runs.specs.Past.{of_past, read_bytes}
use Rattle.list_runs.specs.Life.{past_life, untold}
use Rattle.list_runs.proofs.Pasts.{step, text_counts}
use Rattle.list_runs.proofs.past.PastDeskAnswering.answer.Goals as goal

pub returns-in_default-clause-step : goal.returns-in_default-clause-step
returns-in_default-clause-step g c s h stands =
    subst (λ o. IsStep of_past (past_life g.K.Keeper.keeper) c.args.self.now c.args.self.now h (option_map (λ l. l.now) o) c.bad_line.result) (sym c.in_default.is)
    (step g.K.Keeper.keeper c.args.self.now h stands None _ c.bad_line.result refl c.bad_line.ensures)

pub returns-in_default-clause-count : goal.returns-in_default-clause-count
returns-in_default-clause-count g c = text_counts _ c.bad_line.result c.bad_line.ensures

pub returns-in-Ok-clause-step : goal.returns-in-Ok-clause-step
returns-in-Ok-clause-step g c s h stands =
    subst (λ o. IsStep of_past (past_life g.K.Keeper.keeper) c.args.self.now c.args.self.now h (option_map (λ l. l.now) o) c.answer_asked.result) (sym c.in-Some.is)
    (step g.K.Keeper.keeper c.args.self.now h stands (Some c.in-Some.bytes.now) _ c.answer_asked.result (sym (ap (read_bytes h) c.in-Ok.ensures.value)) (c.answer_asked.ensures (untold stands.0 h) stands.1))

pub returns-in-Ok-clause-count : goal.returns-in-Ok-clause-count
returns-in-Ok-clause-count g c =
    let stands = c.requires.1.1 in
    text_counts _ c.answer_asked.result (c.answer_asked.ensures (untold stands.0 c.requires.1.0) stands.1)

pub returns-in-Err-Bad-clause-step : goal.returns-in-Err-Bad-clause-step
returns-in-Err-Bad-clause-step g c s h stands =
    subst (λ o. IsStep of_past (past_life g.K.Keeper.keeper) c.args.self.now c.args.self.now h (option_map (λ l. l.now) o) c.bad_line-in-Err-Bad.result) (sym c.in-Some.is)
    (step g.K.Keeper.keeper c.args.self.now h stands (Some c.in-Some.bytes.now) _ c.bad_line-in-Err-Bad.result (sym (ap (read_bytes h) (rw c.in-Err-Bad.field-0-is at c.in-Err-Bad.ensures.value))) c.bad_line-in-Err-Bad.ensures)

pub returns-in-Err-Bad-clause-count : goal.returns-in-Err-Bad-clause-count
returns-in-Err-Bad-clause-count g c = text_counts _ c.bad_line-in-Err-Bad.result c.bad_line-in-Err-Bad.ensures

pub returns-in-Err-Memory-clause-step : goal.returns-in-Err-Memory-clause-step
returns-in-Err-Memory-clause-step g c s h stands = step g.K.Keeper.keeper c.args.self.now h stands (option_map (λ l. l.now) c.args.line) _ (Rattle.std.specs.Prelude.Err Rattle.line_run.specs.declared.answering.Stopped.TheVariants.Memory) refl refl
