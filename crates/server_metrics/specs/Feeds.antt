-- The metrics of feeds.
use Rattle.std.specs.Prelude.{ℕ, List, [], ◌∷◌, codes, if◌then◌else◌}
use Rattle.std.specs.List.{flat_map}
use Rattle.news_types.specs.Names.{Bytes}
use Rattle.server_metrics.specs.declared.family.Family.{Family}
use Rattle.server_metrics.specs.declared.family.Family.TheVariants.{FeedLength, FeedAcked, FeedTries, FeedPaused, FeedOldest}
use Rattle.server_metrics.specs.declared.feeds.FeedGauge.{FeedGauge}
use Rattle.server_metrics.specs.declared.feeds.Measure.{Measure}
use Rattle.server_metrics.specs.declared.feeds.Measure.TheVariants.{Length, Acked, Tries, Paused, Oldest}
use Rattle.server_metrics.specs.Text.{family, labelled}

abbrev pub family_of : Measure → Family
family_of Length = FeedLength
family_of Acked = FeedAcked
family_of Tries = FeedTries
family_of Paused = FeedPaused
family_of Oldest = FeedOldest

abbrev pub value_of : Measure → FeedGauge → ℕ
value_of Length g = g.length
value_of Acked g = g.acked
value_of Tries g = g.tries
value_of Paused g = if g.paused then 1 else 0
value_of Oldest g = g.oldest

abbrev pub feed_sample : Measure → FeedGauge → Bytes
feed_sample measure g = labelled (family_of measure) (codes "subscriber") g.subscriber (value_of measure g)

-- a measure of all feeds
abbrev pub feed_family : List FeedGauge → Measure → Bytes
feed_family gauges measure = family (family_of measure) (feed_sample measure) gauges

abbrev pub measures : List Measure
measures = Length ∷ Acked ∷ Tries ∷ Paused ∷ Oldest ∷ []

abbrev pub feeds_text : List FeedGauge → Bytes
feeds_text gauges = flat_map (feed_family gauges) measures
