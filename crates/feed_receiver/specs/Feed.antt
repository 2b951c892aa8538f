-- The frames of a feed, one after the other.
use Rattle.std.specs.Prelude.{◌≡◌, ℕ, ◌+◌, List, [], ◌∷◌, ◌++◌, length, map}
use Rattle.news_types.specs.Names.{Bytes}
use Rattle.news_types.specs.Frames.{Frame}
use Rattle.news_io.specs.declared.record.Record.{Record}
use Rattle.feed_receiver.specs.Spelling.{frame_bytes, IsFrame}

-- the frame is number k of this name's feed
pub record IsNumber (name : Bytes) (k : ℕ) (f : Frame) : Type 0 where
  pub form : IsFrame f
  pub mine : f.to ≡ name
  pub number : f.k ≡ k

-- the bytes are a frame with that number
pub record AreNumber (name : Bytes) (k : ℕ) (bytes : Bytes) : Type 0 where
  pub frame : Frame
  pub numbered : IsNumber name k frame
  pub is : bytes ≡ frame_bytes frame

-- the frames have the numbers from k on, each one once
abbrev pub InOrder : Bytes → ℕ → List Frame → Type 0
InOrder name k [] = Unit {0}
InOrder name k (f ∷ frames) = IsNumber name k f × InOrder name (k + 1) frames

abbrev pub payloads : List Record → List Bytes
payloads records = map (λ (r : Record). r.bytes) records

-- the records are the frames of this name's feed from number 1 on
pub record AreFrames (name : Bytes) (records : List Record) : Type 0 where
  pub frames : List Frame
  pub order : InOrder name 1 frames
  pub are : payloads records ≡ map frame_bytes frames

-- the first record that is not the frame of its number begins here
pub record HasBadFrame (name : Bytes) (records : List Record) (at : ℕ) : Type 0 where
  pub front : List Record
  pub bad : Record
  pub rest : List Record
  pub is : records ≡ front ++ bad ∷ rest
  pub before : AreFrames name front
  pub here : AreNumber name (length front + 1) bad.bytes → ⊥
  pub place : at ≡ bad.at
