use Rattle.std.proofs.Common.{◌∙◌, ℕ, [], refl, sym, ap, map}
use Rattle.std.proofs.lemmas.Result.{IfOk-weaker}
use Rattle.news_types.specs.Names.{Bytes}
use Rattle.news_types.specs.Products.{subscribers}
use Rattle.news_types.specs.Answers.{in_order, queue_rows}
use Rattle.server_metrics.specs.Rows.{row_gauge}
use Rattle.server_metrics.proofs.Answered.{queue_gauges, queue_only}
use Rattle.server_metrics.proofs.room.feed_gauges.Goals as goal

pub ask-requires : goal.ask-requires
ask-requires g c = record { stands = c.requires }

pub unreachable-requires : goal.unreachable-requires
unreachable-requires g c =
    let b = c.requires.0 in
    let frames = λ (s : Bytes) (k : ℕ). [] in
    c.in_default.not-Queue (queue_rows b.list (in_order (subscribers b.list))) (c.in_ok-answer.ensures.plain refl b frames c.requires.1)

pub returns : goal.returns
returns g c =
    IfOk-weaker c.row_gauges.result _ _
    (λ feeds told b stands.
    let frames = λ (s : Bytes) (k : ℕ). [] in
    let rows = c.as_slice.ensures ∙ queue_only b.list c.in-Queue.rows frames (sym c.in-Queue.is ∙ c.in_ok-answer.ensures.plain refl b frames stands) in
    told b.list (c.stories.ensures.keeps b.list (c.newsroom.ensures.stands_for b stands)) ∙ ap (map (row_gauge b.list c.args.moment)) rows ∙ queue_gauges b.list c.args.moment)
    c.row_gauges.ensures
