-- The metrics of a server.
use Rattle.std.specs.Prelude.{ℕ}
use Rattle.news_types.specs.Names.{Bytes}
use Rattle.news_types.specs.History.{History, moment_at}
use Rattle.server_counts.specs.Tally.{Tally}
use Rattle.server_metrics.specs.Measured.{feed_gauges, room_gauges}
use Rattle.server_metrics.specs.Written.{metrics_by}

-- of a list at a reading of the clock, beside a log of so many bytes and what was counted
abbrev pub metrics : History → (reading size : ℕ) → Tally → Bytes
metrics h reading size counts = metrics_by (room_gauges h size) (feed_gauges h (moment_at h reading)) counts
