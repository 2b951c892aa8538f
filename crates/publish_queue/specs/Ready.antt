-- When a feed may be pushed, as its row and its delivery say.
use Rattle.std.specs.Prelude.{ℕ, ◌+◌, ◌==◌, nat_lt, ◌&&◌, length, slice_get, if◌then◌else◌, Option, Some, None}
use Rattle.news_types.specs.Delivery.{retry_delay, or_else}
use Rattle.publish_queue.specs.declared.feed.Feed.{Feed}
use Rattle.publish_queue.specs.Rows.{live, next_in}

-- when an entry of that release may be pushed, behind so many tries of which the last was at the moment
abbrev pub turn_by : Option ℕ → ℕ → ℕ → Option ℕ
turn_by None n last = None
turn_by (Some release) n last = if n == 0 then Some release else (if nat_lt n 10 then Some (last + retry_delay n) else None)

abbrev pub row_turn : Feed → Option ℕ
row_turn f = turn_by (slice_get f.row.releases.items f.delivery.acked) f.delivery.tries f.delivery.tried

-- the entry that it goes on with, if one is not acknowledged
abbrev pub next_by : Feed → Option ℕ
next_by f = if nat_lt f.delivery.acked (length f.row.numbers.items) then Some (f.delivery.acked + 1) else None

-- when a feed may be ready, by its turn and by what waits for it
abbrev pub later_by : Feed → Option ℕ
later_by f =
    if nat_lt f.delivery.acked (length f.row.numbers.items) && f.delivery.tries == 10
    then None
    else or_else f.turn (next_in (live f.waiting.releases.items))
