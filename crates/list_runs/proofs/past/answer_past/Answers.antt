use Rattle.std.proofs.Common.{rules, subst}
use Rattle.news_types.specs.History.{History}
use Rattle.list_runs.specs.Life.{PastAnswered}
use Rattle.list_runs.proofs.Fronts.{most_first}
use Rattle.list_runs.proofs.Pasts.{opened_stands}
use Rattle.list_runs.proofs.past.answer_past.Goals as goal

pub answer_at-status-requires : goal.answer_at-status-requires
answer_at-status-requires g c =
    let opened = c.in-Ok.ensures in
    record { stands = (c.args.store, (opened.history, opened_stands g.K.Keeper.keeper c.args.keeper c.args.store _ c.in-Ok.room opened)) }

pub returns-in-Ok-clause-answered : goal.returns-in-Ok-clause-answered
returns-in-Ok-clause-answered g c h are =
    let opened = c.in-Ok.ensures in
    let same = most_first c.args.records.now c.args.entries c.min-most.result opened.history h (search rules) are (search rules) in
    subst (λ (l : History). PastAnswered g.K.Keeper.keeper g.S.Source.source g.O.Sink.sink l c.args.input.now c.answer_at-status.new.input c.args.output.now c.answer_at-status.new.output c.answer_at-status.result) same
    (c.answer_at-status.ensures.answered c.args.store opened.history (opened_stands g.K.Keeper.keeper c.args.keeper c.args.store _ c.in-Ok.room opened))
