use Rattle.std.proofs.Common.{◌≡◌, drop}
use Rattle.std.specs.List.{list_all}
use Rattle.news_types.specs.History.{History}
use Rattle.news_types.specs.Products.{is_subscriber}
use Rattle.story_tables.specs.Keeps.{KeepsStories}
use Rattle.story_tables.proofs.stories.Stories.has_feeds.Given as goal

abbrev pub invariant-loop-name : goal.invariant-loop-name
invariant-loop-name l = (h : History) → KeepsStories l.fn.self h → list_all (is_subscriber h) (drop l.name-index l.subscribers) ≡ list_all (is_subscriber h) l.subscribers
