-- What the bytes of a file hold as the log of a receiver, and why they do not serve.
use Rattle.std.specs.Prelude.{◌≡◌, ◌⊎◌, ℕ, List, [], map, take, Option, Some, None}
use Rattle.news_types.specs.Names.{Bytes}
use Rattle.news_types.specs.Frames.{Frame}
use Rattle.news_io.specs.Faults.{Rose}
use Rattle.news_io.specs.declared.record.Record.{Record}
use Rattle.news_journal.specs.declared.header.Header.TheVariants as header
use Rattle.news_journal.specs.Log.{IsHead}
use Rattle.news_journal.specs.Damage.{header_damage, damage}
use Rattle.news_journal.specs.Opened.{IsLog, places}
use Rattle.feed_receiver.specs.Spelling.{frame_bytes}
use Rattle.feed_receiver.specs.Feed.{InOrder, HasBadFrame}
use Rattle.receiver_files.specs.declared.kinds.LogKind.{LogKind}
use Rattle.receiver_files.specs.declared.kinds.LogKind.TheVariants.{Empty, Other, Own}
use Rattle.receiver_files.specs.declared.refusal.Refusal.{Refusal}
use Rattle.receiver_files.specs.declared.refusal.Refusal.TheVariants as refusal

-- ---- what they hold

-- they are the log of the receiver of this name, and its records are these frames, which are numbered from 1 on
pub record Opens (log : List ℕ) (name : Bytes) (frames : List Frame) : Type 0 where
  pub records : List (ℕ × Bytes)
  pub log_is : IsLog (header.Receiver name) records log
  pub order : InOrder name 1 frames
  pub are : map (λ (r : ℕ × Bytes). r.1) records ≡ map frame_bytes frames

-- what the receiver of this name finds in them: an empty file holds no frame
abbrev pub Gives : Bytes → List ℕ → List Frame → Type 0
Gives name log frames = ((log ≡ []) × (frames ≡ [])) ⊎ Opens log name frames

-- the log begins with these 64 bytes, and its records are these frames
pub record OpenTo (head : List ℕ) (name : Bytes) (log : List ℕ) (frames : List Frame) : Type 0 where
  pub begins : take 64 log ≡ head
  pub opens : Opens log name frames

-- ---- why they do not serve

-- their header is of the form of a log's, and not that of this receiver's
abbrev pub IsOther : Bytes → List ℕ → Type 0
IsOther name log = (header_damage (take 64 log) ≡ None) × (IsHead (header.Receiver name) (take 64 log) → ⊥)

-- they are this receiver's log, and the first record that is not the frame of its number has its gate here, which is 1
pub record HasBadRecord (name : Bytes) (log : List ℕ) (at : ℕ) (found : Option ℕ) : Type 0 where
  pub records : List Record
  pub log_is : IsLog (header.Receiver name) (places records) log
  pub bad : HasBadFrame name records at
  pub found_is : found ≡ Some 1

-- they are not empty and not another's, and are no log, or not one of the feed of this receiver
pub record IsDamaged (name : Bytes) (log : List ℕ) (at : ℕ) (found : Option ℕ) : Type 0 where
  pub some : log ≡ [] → ⊥
  pub mine : IsOther name log → ⊥
  pub shown : (damage log ≡ Some (at, found)) ⊎ HasBadRecord name log at found

-- what they say to each refusal
abbrev pub Cause : Bytes → List ℕ → Refusal → Type 0
Cause name log refusal.WrongStore = IsOther name log
Cause name log refusal.Store = Unit {0}
Cause name log (refusal.Damaged at found) = IsDamaged name log at found
Cause name log refusal.Memory = Unit {0}

-- a refusal that no bytes show: the disk failed, or there was no memory
abbrev pub IsNotOfBytes : Refusal → Type 0
IsNotOfBytes refusal.Store = Unit {0}
IsNotOfBytes refusal.Memory = Unit {0}
IsNotOfBytes why = ⊥

-- a failure is told only where the count rose, and else it is as it was
abbrev pub RefusalCounts : ℕ → ℕ → Refusal → Type 0
RefusalCounts before now refusal.Store = Rose before now
RefusalCounts before now why = now ≡ before

-- ---- by their length and their header

-- a file that may be this receiver's log: where its header is of the form, it is that of this receiver's
pub record MayBeMine (name : Bytes) (log : List ℕ) : Type 0 where
  pub some : log ≡ [] → ⊥
  pub mine : header_damage (take 64 log) ≡ None → IsHead (header.Receiver name) (take 64 log)

abbrev pub IsKind : Bytes → List ℕ → LogKind → Type 0
IsKind name log Empty = log ≡ []
IsKind name log Other = IsOther name log
IsKind name log Own = MayBeMine name log

-- records that are not the feed of this receiver
abbrev pub AreBad : Bytes → List Record → Refusal → Type 0
AreBad name records (refusal.Damaged at found) = HasBadFrame name records at × (found ≡ Some 1)
AreBad name records why = ⊥
