use Rattle.std.proofs.Common.{sym, subst}
use Rattle.line_run.specs.Step.{IsStep}
use Rattle.desk_lines.specs.declared.asked.Asked.{Asked}
use Rattle.room_runs.specs.Lines.{of_asked}
use Rattle.room_runs.specs.Desk.{line_hand}
use Rattle.room_runs.specs.Life.{life}
use Rattle.room_runs.proofs.desk.LineDesk.answer_asked.Goals as goal

pub returns-in-Request-clause-step : goal.returns-in-Request-clause-step
returns-in-Request-clause-step g c s h stands =
    subst (λ (a : Asked). IsStep (of_asked s.before) (life g.K.Keeper.keeper g.C.Clock.clock line_hand s) c.args.self.now c.request.new.self h a c.request.result) (sym c.in-Request.is)
    (c.request.ensures.step s h stands)

pub returns-in-Query-clause-step : goal.returns-in-Query-clause-step
returns-in-Query-clause-step g c s h stands =
    subst (λ (a : Asked). IsStep (of_asked s.before) (life g.K.Keeper.keeper g.C.Clock.clock line_hand s) c.args.self.now c.answer_query.new.self h a c.answer_query.result) (sym c.in-Query.is)
    (c.answer_query.ensures.step s h stands)

pub returns-in-Receipt-clause-step : goal.returns-in-Receipt-clause-step
returns-in-Receipt-clause-step g c s h stands =
    subst (λ (a : Asked). IsStep (of_asked s.before) (life g.K.Keeper.keeper g.C.Clock.clock line_hand s) c.args.self.now c.receipt.new.self h a c.receipt.result) (sym c.in-Receipt.is)
    (c.receipt.ensures.step s h stands)

pub returns-in-Archive-clause-step : goal.returns-in-Archive-clause-step
returns-in-Archive-clause-step g c s h stands =
    subst (λ (a : Asked). IsStep (of_asked s.before) (life g.K.Keeper.keeper g.C.Clock.clock line_hand s) c.args.self.now c.search.new.self h a c.search.result) (sym c.in-Archive.is)
    (c.search.ensures.step s h stands)

pub returns-in-Desk-clause-step : goal.returns-in-Desk-clause-step
returns-in-Desk-clause-step g c s h stands =
    subst (λ (a : Asked). IsStep (of_asked s.before) (life g.K.Keeper.keeper g.C.Clock.clock line_hand s) c.args.self.now c.ask_desk.new.self h a c.ask_desk.result) (sym c.in-Desk.is)
    (c.ask_desk.ensures.step s h stands)
