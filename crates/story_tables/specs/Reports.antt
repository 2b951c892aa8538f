-- How feeds fare.
use Rattle.std.specs.Prelude.{◌==◌, nat_lt, length, if◌then◌else◌}
use Rattle.news_types.specs.declared.query.QueueRow.{QueueRow}
use Rattle.news_types.specs.declared.query.FeedState.{FeedState}
use Rattle.news_types.specs.declared.query.FeedState.TheVariants.{Paused, Retrying, Pending, Waiting, Success}
use Rattle.news_types.specs.Names.{Bytes}
use Rattle.news_types.specs.History.{History}
use Rattle.news_types.specs.Feeds.{feed}
use Rattle.news_types.specs.Delivery.{acked, tries, feed_state}
use Rattle.publish_queue.specs.declared.ask.FeedFacts.{FeedFacts}

-- a feed that so stands fares so
abbrev pub fares : FeedFacts → FeedState
fares f = if nat_lt f.acked f.length then (if f.tries == 10 then Paused else (if f.tries == 0 then Pending else Retrying)) else (if f.waits then Waiting else Success)

abbrev pub row_by : Bytes → FeedFacts → QueueRow
row_by s f = record { subscriber = s; length = f.length; acked = f.acked; tries = f.tries; state = fares f }

-- the feed of a subscriber, in the report
abbrev pub queue_row : History → Bytes → QueueRow
queue_row h s = record { subscriber = s; length = length (feed h s); acked = acked h s; tries = tries h s; state = feed_state h s }
