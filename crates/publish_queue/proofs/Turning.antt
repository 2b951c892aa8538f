-- When the feed of a subscriber may be pushed, by its row and by the publications.
use Rattle.std.proofs.Common.{◌≡◌, ℕ, slice_get, Option, Some, None, refl}
use Rattle.std.specs.Option.{option_map}
use Rattle.news_types.specs.Feeds.{Dispatch, feed_of}
use Rattle.news_types.specs.Delivery.{ready_from}
use Rattle.publish_queue.specs.declared.feed.Feed.{Feed}
use Rattle.publish_queue.specs.Ready.{turn_by, row_turn}
use Rattle.publish_queue.specs.Keeps.{Facts, IsRow, Stands, moment_of, turn_of}
use Rattle.publish_queue.proofs.Entries.{get_map}

turn_same : (o : Option Dispatch) (t d : ℕ) → turn_by (option_map moment_of o) t d ≡ ready_from o t d
turn_same None t d = refl
turn_same (Some e) t d = refl

-- by the row, and by the publications
pub turn_is : (known : Facts) (f : Feed) → IsRow known.publications known.moment f → Stands known f → row_turn f ≡ turn_of known f.name
turn_is known f is stands =
    let feed = feed_of known.publications known.moment f.name in
    rw (is.row.releases, stands.receipt, stands.attempts, stands.last, get_map moment_of feed (known.acked f.name)) (turn_same (slice_get feed (known.acked f.name)) (known.tries f.name) (known.tried f.name))
