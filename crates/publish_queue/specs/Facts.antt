-- How a feed stands.
use Rattle.std.specs.Prelude.{length, nat_lt}
use Rattle.news_types.specs.Names.{Bytes}
use Rattle.news_types.specs.Feeds.{feed_of, waiting_of}
use Rattle.publish_queue.specs.declared.ask.FeedFacts.{FeedFacts}
use Rattle.publish_queue.specs.Keeps.{Facts}

abbrev pub facts_of : Facts → Bytes → FeedFacts
facts_of known s = record {
  length = length (feed_of known.publications known.moment s);
  acked = known.acked s;
  tries = known.tries s;
  waits = nat_lt 0 (length (waiting_of known.publications known.moment s));
}
