-- Replies that acknowledge an entry of a feed.
use Rattle.std.specs.Prelude.{◌≡◌, ℕ, ◌≤◌, length}
use Rattle.news_types.specs.Names.{Bytes}
use Rattle.news_types.specs.History.{History}
use Rattle.news_types.specs.Feeds.{feed}
use Rattle.feed_receiver.specs.Spelling.{receipt_bytes, IsReceipt}

-- the reply is the subscriber's receipt for the first n entries of its feed, entry k among them
pub record IsReceiptFor (s : Bytes) (k n : ℕ) (reply : Bytes) : Type 0 where
  pub line : reply ≡ receipt_bytes s n
  pub form : IsReceipt s n
  pub reaches : k ≤ n

-- and the feed has so many entries in this list
pub record Acknowledges (h : History) (s : Bytes) (k n : ℕ) (reply : Bytes) : Type 0 where
  pub receipt : IsReceiptFor s k n reply
  pub within : n ≤ length (feed h s)
