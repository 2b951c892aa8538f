use Rattle.std.proofs.Common.{◌∙◌, ℕ, [], refl, sym, ap}
use Rattle.news_types.specs.Names.{Bytes}
use Rattle.news_types.specs.Products.{subscribers}
use Rattle.news_types.specs.Answers.{in_order, queue_rows}
use Rattle.std.proofs.lemmas.Result.{IfOk-weaker}
use Rattle.room_reports.proofs.Paging.{queue_only}
use Rattle.feed_reports.specs.Queue.{queue_report}
use Rattle.room_reports.proofs.queue.queue_lines.Goals as goal

pub ask-requires : goal.ask-requires
ask-requires g c = record { stands = c.requires }

pub unreachable-requires : goal.unreachable-requires
unreachable-requires g c =
    let b = c.requires.0 in
    let frames = λ (s : Bytes) (k : ℕ). [] in
    c.in_default.not-Queue (queue_rows b.list (in_order (subscribers b.list))) (c.in_ok-answer.ensures.plain refl b frames c.requires.1)

pub returns : goal.returns
returns g c =
    IfOk-weaker c.queue_text.result _ _
    (λ lines is b stands.
    let frames = λ (s : Bytes) (k : ℕ). [] in
    is ∙ ap queue_report (c.as_slice.ensures ∙ queue_only b.list c.in-Queue.rows frames (sym c.in-Queue.is ∙ c.in_ok-answer.ensures.plain refl b frames stands)))
    c.queue_text.ensures
