-- Frames and receipts as bytes.
use Rattle.std.specs.Prelude.{ℕ, ◌≤◌, length, decimal, codes}
use Rattle.news_types.specs.Names.{Bytes}
use Rattle.news_types.specs.Frames.{Frame}
pub use Rattle.news_types.specs.Frames.{frame_bytes}
use Rattle.byte_formats.specs.Lawful.{IsBytes}
use Rattle.byte_formats.specs.Spelling.{◌&◌, byte, IsName}

-- what may stand in a frame
pub record IsFrame (f : Frame) : Type 0 where
  pub to : IsName f.to
  pub first : 1 ≤ f.k
  pub last : f.k ≤ 4294967295
  pub fits : length f.payload ≤ 4194240
  pub bytes : IsBytes f.payload

-- the word RECEIPT, the name and the number, each behind a space; and a line feed
abbrev pub receipt_bytes : Bytes → ℕ → Bytes
receipt_bytes name n = codes "RECEIPT " & name & byte 32 & decimal n & byte 10

-- what may stand in a receipt
abbrev pub IsReceipt : Bytes → ℕ → Type 0
IsReceipt name n = IsName name × (n ≤ 4294967295)
