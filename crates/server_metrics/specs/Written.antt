-- The text of the metrics of a server.
use Rattle.std.specs.Prelude.{List, ◌++◌}
use Rattle.std.specs.List.{flat_map}
use Rattle.news_types.specs.Names.{Bytes}
use Rattle.server_counts.specs.Tally.{Tally}
use Rattle.server_metrics.specs.declared.gauges.Gauge.{Gauge}
use Rattle.server_metrics.specs.declared.feeds.FeedGauge.{FeedGauge}
use Rattle.server_metrics.specs.Gauges.{gauge_text}
use Rattle.server_metrics.specs.Feeds.{feeds_text}
use Rattle.server_metrics.specs.Since.{counts_text}

-- the families of a room, those of its feeds, and those of the counts
abbrev pub metrics_by : List Gauge → List FeedGauge → Tally → Bytes
metrics_by gauges feeds counts = flat_map gauge_text gauges ++ feeds_text feeds ++ counts_text counts
