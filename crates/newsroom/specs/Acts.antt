-- The server's own acts, and when they may follow a list.
use Rattle.std.specs.Prelude.{ℕ, ◌+◌, ◌==◌, ◌&&◌, Bool, true, false, nat_lt, nat_le, length, Option, Some, None}
use Rattle.news_types.specs.declared.entry.Act.{Act}
use Rattle.news_types.specs.declared.entry.Act.TheVariants.{Advance, Attempt, Receipt, Halt}
use Rattle.news_types.specs.History.{History, moment}
use Rattle.news_types.specs.Feeds.{feed}
use Rattle.news_types.specs.Delivery.{acked, is_ready}
use Rattle.news_types.specs.Legal.{some_waits}
use Rattle.publish_queue.specs.declared.ask.FeedFacts.{FeedFacts}

-- one of the four acts
abbrev pub IsSmall : Act → Type 0
IsSmall Advance = Unit {0}
IsSmall (Attempt s k) = Unit {0}
IsSmall (Receipt s n) = Unit {0}
IsSmall Halt = Unit {0}
IsSmall _ = ⊥

-- it may follow at a moment that is not before the last
abbrev pub follows_at : History → Act → ℕ → Bool
follows_at h Advance m = some_waits h m
follows_at h (Attempt s k) m = is_ready h s m && k == acked h s + 1
follows_at h (Receipt s n) m = nat_lt (acked h s) n && nat_le n (length (feed h s))
follows_at h Halt m = true
follows_at h _ m = false

abbrev pub may_follow : History → Act → ℕ → Bool
may_follow h act m = nat_le (moment h) m && follows_at h act m

-- a receipt raises what is acknowledged of a feed that so stands, and is not past its length
abbrev pub raises_by : Option FeedFacts → ℕ → Bool
raises_by None n = false
raises_by (Some f) n = nat_lt f.acked n && nat_le n f.length
