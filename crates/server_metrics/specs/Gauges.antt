-- Families of one number.
use Rattle.std.specs.Prelude.{ℕ}
use Rattle.news_types.specs.Names.{Bytes}
use Rattle.server_metrics.specs.declared.family.Family.{Family}
use Rattle.server_metrics.specs.declared.gauges.Gauge.{Gauge}
use Rattle.server_metrics.specs.Text.{plain}

abbrev pub gauge : Family → ℕ → Gauge
gauge f n = record { family = f; value = n }

abbrev pub gauge_text : Gauge → Bytes
gauge_text g = plain g.family g.value
