use Rattle.std.proofs.Common.{◌≡◌, ℕ, ◌||◌, drop}
use Rattle.news_types.specs.Due.{is_by}
use Rattle.publish_queue.specs.Rows.{live}
use Rattle.publish_queue.specs.Coming.{first_by, some_feed_by}
use Rattle.publish_queue.proofs.coming.next_of.Given as goal

-- with the rest it is that of all
abbrev pub invariant-loop-feed : goal.invariant-loop-feed
invariant-loop-feed l = (n : ℕ) → (first_by n (live l.waiting.releases.items) || some_feed_by n l.feeds) ≡ (is_by n l.first || some_feed_by n (drop l.feed-index l.feeds))
