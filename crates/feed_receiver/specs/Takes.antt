-- What a receiver answers to some bytes, and what becomes of its keeper.
use Rattle.std.specs.Prelude.{◌≡◌, ℕ, ◌+◌, ◌≤◌, ◌<◌, List, [], ◌++◌, length}
use Rattle.news_types.specs.Names.{Bytes}
use Rattle.news_types.specs.Frames.{Frame}
use Rattle.news_io.specs.Faults.{Rose}
use Rattle.byte_formats.specs.Faults.{IsFaultAt}
use Rattle.feed_receiver.specs.declared.receiver.Taken.{Taken}
use Rattle.feed_receiver.specs.declared.receiver.Taken.TheVariants.{BadFrame, NotMine, Known, Ahead, Accepted, Fault, Full}
use Rattle.feed_receiver.specs.Spelling.{frame_bytes, IsFrame}
use Rattle.news_types.specs.Receiver as step
use Rattle.news_types.specs.Calls.{Fate, IsKept, IsFull, IsFailed, IsStarved}
use Rattle.news_io.specs.Keeper.{KeeperMeaning}

-- the bytes are this frame
pub record AreFrame (f : Frame) (bytes : Bytes) : Type 0 where
  pub form : IsFrame f
  pub is : bytes ≡ frame_bytes f

-- what the receiver's step makes of the frame that is so answered: an accepted one may be kept, fail, be refused or find no memory
abbrev pub reaction_of : Taken → step.Taken
reaction_of NotMine = step.NotMine
reaction_of (Known held) = step.Known
reaction_of (Ahead held) = step.Ahead
reaction_of answer = step.Accepted

-- what became of the frame; one that is not the next is not tried
abbrev pub fate_of : Taken → Fate
fate_of (Accepted k) = IsKept
fate_of Fault = IsFailed
fate_of (Full size count) = IsFull
fate_of answer = IsStarved

-- the number that an answer carries, where the receiver holds so many
abbrev pub Carries : Taken → ℕ → Type 0
Carries (Known held) count = held ≡ count
Carries (Ahead held) count = held ≡ count
Carries (Accepted k) count = k ≡ count + 1
Carries answer count = Unit {0}

-- the answer is the step's on the frame, and these come to what is held
pub record Reacts (name : Bytes) (held : List Frame) (f : Frame) (answer : Taken) (more : List Frame) : Type 0 where
  pub reaction : step.reaction name (length held) f ≡ reaction_of answer
  pub carries : Carries answer (length held)
  pub grown : (doubt : List Frame) → (step.taken name (record { held = held; doubt = doubt }) f (fate_of answer)).held ≡ held ++ more

-- what the bytes are to the receiver of this name that holds these: no frame; or a frame, on which the answer is the step's
abbrev pub IsStep : Bytes → List Frame → Bytes → Taken → List Frame → Type 0
IsStep name held bytes (BadFrame at) more = IsFaultAt frame_bytes IsFrame bytes at × (more ≡ [])
IsStep name held bytes answer more = (f : Frame) × AreFrame f bytes × Reacts name held f answer more

-- the answer to bytes that are not the next frame, by a receiver of this name that holds so many
abbrev pub IsRefused : Bytes → ℕ → Bytes → Taken → Type 0
IsRefused name count bytes (BadFrame at) = IsFaultAt frame_bytes IsFrame bytes at
IsRefused name count bytes NotMine = (f : Frame) × AreFrame f bytes × (step.reaction name count f ≡ step.NotMine)
IsRefused name count bytes (Known held) = (f : Frame) × AreFrame f bytes × (step.reaction name count f ≡ step.Known) × (held ≡ count)
IsRefused name count bytes (Ahead held) = (f : Frame) × AreFrame f bytes × (step.reaction name count f ≡ step.Ahead) × (held ≡ count)
IsRefused name count bytes answer = ⊥

-- the receiver and its keeper are as before, unless the keeper was asked
abbrev pub SameUnlessAsked : {R : Type 0} → R → R → Taken → Type 0
SameUnlessAsked old new (Accepted k) = Unit {0}
SameUnlessAsked old new Fault = Unit {0}
SameUnlessAsked old new (Full size count) = Unit {0}
SameUnlessAsked old new taken = new ≡ old

-- a keeper's count of faults, and the bytes that it uses
pub record Numbers : Type 0 where
  pub faults : ℕ
  pub used : ℕ

abbrev pub numbers : {K : Type 0} → KeeperMeaning K → K → Numbers
numbers keeper k = record { faults = keeper.faults k; used = keeper.used k }

-- An accepted frame takes its length and five bytes more, a fault comes only where the count rose,
-- and Full exactly where the bytes in use would pass the limit, with their number and the frame's length.
abbrev pub IsCounted : Numbers → Numbers → Bytes → Taken → Type 0
IsCounted old new bytes (Accepted k) = (new.faults ≡ old.faults) × (new.used ≡ old.used + length bytes + 5) × (new.used ≤ 1073741824)
IsCounted old new bytes Fault = Rose old.faults new.faults × (old.faults ≤ new.faults) × (new.used ≡ old.used) × (old.used + length bytes + 5 ≤ 1073741824)
IsCounted old new bytes (Full size count) = (new.faults ≡ old.faults) × (new.used ≡ old.used) × (1073741824 < old.used + length bytes + 5) × (size ≡ old.used) × (count ≡ length bytes)
IsCounted old new bytes taken = (new.faults ≡ old.faults) × (new.used ≡ old.used)
