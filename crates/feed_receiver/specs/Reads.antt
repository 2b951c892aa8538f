-- What the first bytes of an input are.
use Rattle.std.specs.Prelude.{◌≡◌, ◌≤◌, ◌<◌, ◌+◌, ◌++◌, length, take}
use Rattle.news_types.specs.Names.{Bytes}
use Rattle.news_types.specs.Frames.{Frame}
use Rattle.byte_formats.specs.Lawful.{Begins}
use Rattle.feed_receiver.specs.declared.frame.FirstFrame.{FirstFrame}
use Rattle.feed_receiver.specs.declared.frame.FirstFrame.TheVariants.{Whole, Bad, Cut}
use Rattle.feed_receiver.specs.Spelling.{frame_bytes, IsFrame}

-- a whole frame of so many bytes; or none, and bytes up to and with a place, with which no frame goes on; or the front of a frame, which is not whole
abbrev pub IsFirst : Bytes → FirstFrame → Type 0
IsFirst bytes (Whole size) = (f : Frame) × IsFrame f × (take size bytes ≡ frame_bytes f) × (size ≤ length bytes)
IsFirst bytes (Bad at) = (at < length bytes) × Begins frame_bytes IsFrame (take at bytes) × (Begins frame_bytes IsFrame (take (at + 1) bytes) → ⊥)
    × ((f : Frame) (rest : Bytes) → IsFrame f → bytes ≡ frame_bytes f ++ rest → ⊥)
IsFirst bytes Cut = Begins frame_bytes IsFrame bytes × ((f : Frame) (rest : Bytes) → IsFrame f → bytes ≡ frame_bytes f ++ rest → ⊥)
