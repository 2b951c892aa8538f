-- What is measured of a list.
use Rattle.std.specs.Prelude.{ℕ, ◌-◌, List, [], ◌∷◌, map, length, Option, Some, None, option_map}
use Rattle.news_types.specs.declared.words.Thing.TheVariants as thing
use Rattle.news_types.specs.Names.{Bytes}
use Rattle.news_types.specs.History.{History, moment}
use Rattle.news_types.specs.Products.{subscribers}
use Rattle.news_types.specs.Feeds.{feed}
use Rattle.news_types.specs.Publications.{item_count, pubs}
use Rattle.news_types.specs.Delivery.{acked, tries, next_entry, is_paused}
use Rattle.news_types.specs.Answers.{in_order}
use Rattle.news_types.specs.Denial.{limit_of}
use Rattle.story_tables.specs.Views.{release_in}
use Rattle.news_room.specs.Stands.{LIMIT}
use Rattle.server_metrics.specs.declared.family.Family.TheVariants.{Entries, Moment, LogBytes, LogLimit, Items, ItemsLimit, Publications}
use Rattle.server_metrics.specs.declared.gauges.Gauge.{Gauge}
use Rattle.server_metrics.specs.declared.feeds.FeedGauge.{FeedGauge}
use Rattle.server_metrics.specs.declared.measured.Checked.{Checked}
use Rattle.server_metrics.specs.Gauges.{gauge}

-- ---- the room

abbrev pub checked_of : History → Checked
checked_of h = record { entries = length h; moment = moment h; publications = length (pubs h) }

-- beside a log of so many bytes, of which requests may use those of the limit
abbrev pub gauges_of : Checked → ℕ → ℕ → List Gauge
gauges_of c items size =
    gauge Entries c.entries ∷ gauge Moment c.moment ∷ gauge LogBytes size ∷ gauge LogLimit LIMIT
    ∷ gauge Items items ∷ gauge ItemsLimit (limit_of thing.Item) ∷ gauge Publications c.publications ∷ []

abbrev pub room_gauges : History → ℕ → List Gauge
room_gauges h size = gauges_of (checked_of h) (item_count h) size

-- ---- its feeds

-- how long before a moment the release was; 0 without one
abbrev pub age_since : ℕ → Option ℕ → ℕ
age_since m None = 0
age_since m (Some release) = m - release

-- a subscriber's feed at a moment, with how long its first entry that is not acknowledged has been released to the subscriber
abbrev pub feed_gauge : History → ℕ → Bytes → FeedGauge
feed_gauge h m s = record {
  subscriber = s;
  length = length (feed h s);
  acked = acked h s;
  tries = tries h s;
  paused = is_paused h s;
  oldest = age_since m (option_map release_in (next_entry h s));
}

-- all feeds, in byte order of their subscribers
abbrev pub feed_gauges : History → ℕ → List FeedGauge
feed_gauges h m = map (feed_gauge h m) (in_order (subscribers h))
