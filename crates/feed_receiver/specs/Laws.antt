-- The laws of frames and receipts.
use Rattle.std.specs.Prelude.{◌≡◌, ◌≤◌, ℕ, length, Some, None}
use Rattle.news_types.specs.Names.{Bytes}
use Rattle.news_types.specs.Frames.{Frame}
use Rattle.byte_formats.specs.Lawful.{IsBytes, Lawful}
use Rattle.feed_receiver.specs.Spelling.{frame_bytes, IsFrame, receipt_bytes, IsReceipt}
use Rattle.feed_receiver.specs.Formats.{frame, receipt_of}

-- A frame is read again whatever follows it, and a fault is at the first byte with which no frame goes on.
-- So no two frames have the same bytes, and their records are within the limit.
pub record FramesAreReadAgain : Type 0 where
  pub again : Lawful frame IsFrame
  pub one : (f g : Frame) → IsFrame f → IsFrame g → frame_bytes f ≡ frame_bytes g → f ≡ g
  pub short : (f : Frame) → IsFrame f → length (frame_bytes f) ≤ 4194298

-- a receipt's line is read as the name and the number that it was written for, and every other line as none
pub record ReceiptsAreReadAgain : Type 0 where
  pub again : (name : Bytes) (n : ℕ) → IsReceipt name n → receipt_of (receipt_bytes name n) ≡ Some (name, n)
  pub others : (line : Bytes) → IsBytes line → ((name : Bytes) (n : ℕ) → IsReceipt name n → line ≡ receipt_bytes name n → ⊥) → receipt_of line ≡ None
