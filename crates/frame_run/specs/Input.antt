-- The frames of an input.
use Rattle.std.specs.Prelude.{◌≡◌, ◌⊎◌, ◌<◌, ◌≤◌, ℕ, ◌+◌, List, [], ◌∷◌, ◌++◌, length}
use Rattle.std.specs.List.{flat_map}
use Rattle.news_types.specs.Names.{Bytes}
use Rattle.news_types.specs.Frames.{Frame}
use Rattle.byte_formats.specs.Lawful.{Begins}
use Rattle.byte_formats.specs.Faults.{IsFaultAt}
use Rattle.feed_receiver.specs.Spelling.{frame_bytes, IsFrame}

-- what may stand in each of them
abbrev pub AllFit : List Frame → Type 0
AllFit [] = Unit {0}
AllFit (f ∷ frames) = IsFrame f × AllFit frames

-- the bytes are these frames, one behind the other, and then the rest
pub record AreFrames (bytes : Bytes) (frames : List Frame) (rest : Bytes) : Type 0 where
  pub is : bytes ≡ flat_map frame_bytes frames ++ rest
  pub fit : AllFit frames

-- no frame stands first in the bytes, whole
abbrev pub NoneIsWhole : Bytes → Type 0
NoneIsWhole bytes = (f : Frame) (more : Bytes) → IsFrame f → bytes ≡ frame_bytes f ++ more → ⊥

-- the bytes are nothing, or begin a frame and end too soon for it
pub record HasBegun (bytes : Bytes) : Type 0 where
  pub begins : Begins frame_bytes IsFrame bytes
  pub none : NoneIsWhole bytes

-- the bytes are these frames and what has come of the next
pub record AreAll (bytes : Bytes) (frames : List Frame) : Type 0 where
  pub rest : Bytes
  pub are : AreFrames bytes frames rest
  pub begun : HasBegun rest

-- the bytes are these frames, and behind them they are not at their end and begin with no frame: at the place is the first byte such that
-- no frame goes on with the bytes up to and with it, or the end where they end too soon
pub record IsBadAt (bytes : Bytes) (frames : List Frame) (at : ℕ) : Type 0 where
  pub rest : Bytes
  pub are : AreFrames bytes frames rest
  pub some : 0 < length rest
  pub none : NoneIsWhole rest
  pub within : ℕ
  pub fault : IsFaultAt frame_bytes IsFrame rest within
  pub place : at + length rest ≡ length bytes + within

-- the place lies in so many first bytes, or there are no more
abbrev pub IsLookedAt : Bytes → ℕ → ℕ → Type 0
IsLookedAt bytes at most = (at < most) ⊎ (length bytes ≤ most)
