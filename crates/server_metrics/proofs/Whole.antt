-- The metrics of a server from those of its room, its feeds and its counts.
use Rattle.std.proofs.Common.{◌≡◌, ◌∙◌, ℕ, List, ap}
use Rattle.news_types.specs.Names.{Bytes}
use Rattle.news_types.specs.History.{History, moment_at}
use Rattle.news_types.specs.Publications.{item_count}
use Rattle.server_counts.specs.Tally.{Tally}
use Rattle.server_metrics.specs.declared.measured.Checked.{Checked}
use Rattle.server_metrics.specs.declared.gauges.Gauge.{Gauge}
use Rattle.server_metrics.specs.declared.feeds.FeedGauge.{FeedGauge}
use Rattle.server_metrics.specs.Measured.{checked_of, feed_gauges, gauges_of, room_gauges}
use Rattle.server_metrics.specs.Written.{metrics_by}
use Rattle.server_metrics.specs.Metrics.{metrics}

pub gauges_are : (h : History) (c : Checked) (items size used : ℕ) (gauges : List Gauge) → gauges ≡ gauges_of c items size → c ≡ checked_of h → items ≡ item_count h → size ≡ used
    → gauges ≡ room_gauges h used
gauges_are h c items size used gauges is same_checked same_items same_size =
    is ∙ ap (λ k. gauges_of k items size) same_checked ∙ ap (λ n. gauges_of (checked_of h) n size) same_items ∙ ap (λ n. gauges_of (checked_of h) (item_count h) n) same_size

pub metrics_are : (h : History) (reading moment used : ℕ) (gauges : List Gauge) (feeds : List FeedGauge) (counts : Tally) (text : Bytes)
    → text ≡ metrics_by gauges feeds counts → gauges ≡ room_gauges h used → feeds ≡ feed_gauges h moment → moment ≡ moment_at h reading
    → text ≡ metrics h reading used counts
metrics_are h reading moment used gauges feeds counts text written same_gauges same_feeds same_moment =
    written ∙ ap (λ (g : List Gauge). metrics_by g feeds counts) same_gauges
    ∙ ap (λ (f : List FeedGauge). metrics_by (room_gauges h used) f counts) (same_feeds ∙ ap (feed_gauges h) same_moment)
