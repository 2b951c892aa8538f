-- The next moment at which something is released.
use Rattle.std.specs.Prelude.{ℕ, ◌||◌, Bool, List, min, Option, Some, None}
use Rattle.std.specs.List.{list_any}
use Rattle.news_types.specs.declared.query.Due.{Due}
use Rattle.news_types.specs.Due.{is_by}
use Rattle.news_types.specs.Legal.{comes_by}
use Rattle.publish_queue.specs.declared.release.Release.{Release}
use Rattle.publish_queue.specs.declared.feed.Feed.{Feed}
use Rattle.publish_queue.specs.Rows.{live, next_in}

-- the earlier moment, if any
abbrev pub sooner : Option ℕ → Option ℕ → Option ℕ
sooner None b = b
sooner (Some a) None = Some a
sooner (Some a) (Some b) = Some (min a b)

-- behind the first moment and by the second the release comes, or one of these for subscribers
abbrev pub some_of_it : ℕ → ℕ → ℕ → List Due → Bool
some_of_it m n release due = comes_by m n release || list_any (λ (d : Due). comes_by m n d.release) due

-- by the moment the first of these comes
abbrev pub first_by : ℕ → List Release → Bool
first_by n rs = is_by n (next_in rs)

-- or the first of what waits for somebody
abbrev pub some_feed_by : ℕ → List Feed → Bool
some_feed_by n feeds = list_any (λ (f : Feed). first_by n (live f.waiting.releases.items)) feeds
