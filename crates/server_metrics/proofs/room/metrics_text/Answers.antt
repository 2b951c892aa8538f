use Rattle.std.proofs.Common.{◌∙◌}
use Rattle.std.proofs.lemmas.Result.{IfOk-weaker}
use Rattle.server_metrics.proofs.Whole.{gauges_are, metrics_are}
use Rattle.server_metrics.proofs.room.metrics_text.Goals as goal

pub returns : goal.returns
returns g c =
    IfOk-weaker c.write_metrics.result _ _
    (λ text written b stands.
    let checked = c.in_ok-checked.ensures b stands in
    let gauges = gauges_are b.list c.in_ok-checked.checked c.item_count.result c.size.result _ c.gauges_of-gauges.result c.gauges_of-gauges.ensures checked (c.item_count.ensures b stands) c.size.ensures in
    metrics_are b.list c.args.now c.moment_at.result _ c.gauges_of-gauges.result c.deref.result.now c.args.counts.now text written gauges (c.deref.ensures.value ∙ c.in_ok-feeds.ensures b stands) (c.moment_at.ensures b.list checked))
    c.write_metrics.ensures
