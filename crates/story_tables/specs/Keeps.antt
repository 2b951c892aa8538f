-- Which list's items, publications and feeds the tables keep.
use Rattle.std.specs.Prelude.{◌<◌, length}
use Rattle.news_types.specs.History.{History, moment}
use Rattle.news_types.specs.Legal.{IsLegal}
use Rattle.news_types.specs.Names.{Bytes}
use Rattle.publish_queue.specs.declared.ask.FeedFacts.{FeedFacts}
use Rattle.publish_queue.specs.Keeps.{facts}
use Rattle.publish_queue.specs.Facts.{facts_of}
use Rattle.item_table.specs.Keeps.{KeepsFacts as KeepsItems}
use Rattle.publications.specs.Keeps.{KeepsFacts as KeepsPublications}
use Rattle.story_tables.specs.Feeds.{KeepsQueue}
use Rattle.story_tables.specs.declared.stories.Stories.{Stories}

-- the tables keep the items, the publications and the feeds of the list
pub record KeepsStories (t : Stories) (h : History) : Type 0 where
  pub items : KeepsItems t.items h
  pub publications : KeepsPublications t.publications h
  pub queue : KeepsQueue t.queue h (moment h)

-- they keep those of some legal list, in which there is place for one more entry
abbrev pub HasPlace : Stories → Type 0
HasPlace t = (h : History) × (KeepsStories t h × IsLegal h × (length h < 4294967295))

-- how the feed of a subscriber stands
abbrev pub facts_at : History → Bytes → FeedFacts
facts_at h s = facts_of (facts h) s
