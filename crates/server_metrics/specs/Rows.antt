-- The metrics of a feed from its row in the queue.
use Rattle.std.specs.Prelude.{ℕ, Bool, true, false, Option, None, if◌then◌else◌, option_map}
use Rattle.news_types.specs.declared.query.FeedState.{FeedState}
use Rattle.news_types.specs.declared.query.FeedState.TheVariants.{Paused}
use Rattle.news_types.specs.declared.query.QueueRow.{QueueRow}
use Rattle.news_types.specs.Names.{Bytes, is_in}
use Rattle.news_types.specs.History.{History}
use Rattle.news_types.specs.Products.{subscribers}
use Rattle.news_types.specs.Delivery.{next_entry}
use Rattle.story_tables.specs.Views.{release_in}
use Rattle.server_metrics.specs.declared.feeds.FeedGauge.{FeedGauge}
use Rattle.server_metrics.specs.Measured.{age_since}

abbrev pub is_paused_state : FeedState → Bool
is_paused_state Paused = true
is_paused_state _ = false

-- the release for a subscriber of the first entry that it has not acknowledged
abbrev pub oldest_release : History → Bytes → Option ℕ
oldest_release h s = if is_in s (subscribers h) then option_map release_in (next_entry h s) else None

abbrev pub row_gauge : History → ℕ → QueueRow → FeedGauge
row_gauge h m row = record {
  subscriber = row.subscriber;
  length = row.length;
  acked = row.acked;
  tries = row.tries;
  paused = is_paused_state row.state;
  oldest = age_since m (oldest_release h row.subscriber);
}
