-- The law of replies.
use Rattle.std.specs.Prelude.{◌≡◌, ℕ}
use Rattle.news_types.specs.Names.{Bytes}
use Rattle.feed_receiver.specs.Spelling.{receipt_bytes, IsReceipt}
use Rattle.feed_links.specs.Receivers.{first_line}

-- a receipt is read whole: its one line feed is its last byte
abbrev pub ReceiptsAreLines : Type 0
ReceiptsAreLines = (name : Bytes) (n : ℕ) → IsReceipt name n → first_line (receipt_bytes name n) ≡ receipt_bytes name n
