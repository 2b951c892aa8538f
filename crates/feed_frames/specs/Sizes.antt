-- How long frames are.
use Rattle.std.specs.Prelude.{◌<◌, ◌≤◌, ◌^◌, ℕ, length, IsTrue, Option}
use Rattle.news_types.specs.declared.words.Format.{Format}
use Rattle.news_types.specs.Names.{Bytes, is_name}
use Rattle.news_types.specs.Feeds.{Dispatch}
use Rattle.news_types.specs.Fits.{FitsStory}
use Rattle.news_types.specs.Frames.{framed, frame_bytes}
use Rattle.feed_frames.specs.Writer.{the_writer}

-- a publication of a story within the limits, whose numbers have 32 bits
pub record FitsDispatch (d : Dispatch) : Type 0 where
  pub number : d.shown.number < 2 ^ 32
  pub version : d.shown.version < 2 ^ 32
  pub story : FitsStory d.shown.story

-- the frame of such a publication, at a place of 32 bits in the feed of a name
pub record FrameSizes (store : Bytes) (format : Option Format) (s : Bytes) (k : ℕ) (d : Dispatch) : Type 0 where
  -- the payload has at most 4194240 bytes
  pub payload : length (framed (the_writer store) format s k d).payload ≤ 4194240
  -- the frame has at most 4194304
  pub frame : length (frame_bytes (framed (the_writer store) format s k d)) ≤ 4194304

-- so it is of every store, in every format
abbrev pub FramesAreShort : Type 0
FramesAreShort = (store : Bytes) (format : Option Format) (s : Bytes) (k : ℕ) (d : Dispatch) → IsTrue (is_name s) → k < 2 ^ 32 → FitsDispatch d → FrameSizes store format s k d
