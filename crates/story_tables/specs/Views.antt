-- What questions read of items and feeds.
use Rattle.std.specs.Prelude.{ℕ, Bool, List}
use Rattle.std.specs.List.{list_any}
use Rattle.news_types.specs.declared.query.Due.{Due}
use Rattle.news_types.specs.declared.story.Story.{Story}
use Rattle.news_types.specs.Names.{Bytes, same}
use Rattle.news_types.specs.Items.{Item}
use Rattle.news_types.specs.Feeds.{Dispatch}

abbrev pub version_in : Item → ℕ
version_in it = it.version

abbrev pub story_in : Item → Story
story_in it = it.story

-- the release of an entry of a feed for its subscriber
abbrev pub release_in : Dispatch → ℕ
release_in d = d.release

-- one of these is due to the subscriber
abbrev pub is_due_among : Bytes → List Due → Bool
is_due_among s due = list_any (λ (d : Due). same s d.subscriber) due
