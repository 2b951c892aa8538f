-- What a run over frames leaves in the log of a receiver, said of its bytes.
use Rattle.std.specs.Prelude.{◌≡◌, ◌⊎◌, ℕ, true, List, [], ◌∷◌, ◌++◌}
use Rattle.news_types.specs.Names.{Bytes}
use Rattle.news_types.specs.Frames.{Frame}
use Rattle.news_io.specs.Disk.{DiskMeaning}
use Rattle.news_journal.specs.Journal.{journal_of}
use Rattle.news_journal.specs.Stands.{disk_of, head_of}
use Rattle.news_journal.specs.declared.log.Journal.{Journal}
use Rattle.feed_receiver.specs.Holds.{Holds}
use Rattle.feed_receiver.specs.Spelling.{frame_bytes, IsFrame}
use Rattle.feed_receiver.specs.declared.receiver.Receiver.{Receiver}
use Rattle.receiver_files.specs.Log.{OpenTo}
use Rattle.receiver_files.specs.Opening.{MayBe, MayBeMade}

module _ (head : List ℕ) (name : Bytes) where
  -- the log opens to the frames, or to the frames and one that was tried
  abbrev pub IsLeft : List Frame → (Frame → Type 0) → List ℕ → Type 0
  IsLeft frames Tried log = OpenTo head name log frames ⊎ ((f : Frame) × Tried f × OpenTo head name log (frames ++ f ∷ []))

  -- the log opens to the held ones and the first few of those behind them, or to all and one that was tried
  pub record Between (held frames : List Frame) (Tried : Frame → Type 0) (log : List ℕ) : Type 0 where
    pub part : List Frame
    pub beyond : (more : List Frame) × (part ≡ held ++ more)
    pub within : (more : List Frame) × (frames ≡ part ++ more)
    pub left : IsLeft part (λ f. (part ≡ frames) × Tried f) log

  -- each of them opens to the frames that the other opens to
  abbrev pub OpenAlike : List ℕ → List ℕ → Type 0
  OpenAlike log other = (frames : List Frame) → (OpenTo head name log frames → OpenTo head name other frames) × (OpenTo head name other frames → OpenTo head name log frames)

module _ {D : Type 0} (disk : DiskMeaning D) where
  -- a frame that was tried, and that a crash may leave behind those that are held
  abbrev pub InDoubt : Receiver (Journal D) → Frame → Type 0
  InDoubt r f = IsFrame f × (journal_of disk).doubts r.keeper (frame_bytes f)

  -- From a file that was opened as a receiver of this name that held these frames, to the receiver behind the run; the status tells how it ended.
  pub record LogLeft (name : Bytes) (log : D) (receiver after : Receiver (Journal D)) (held : List Frame) (status : ℕ) : Type 0 where
    -- the frames go on
    pub frames : List Frame
    pub more : (more : List Frame) × (frames ≡ held ++ more)
    pub holds : Holds (journal_of disk) after (record { name = name; told = true; frames = frames })
    -- the header stays
    pub same_header : head_of after.keeper ≡ head_of receiver.keeper
    -- the log opens to them, as a read gives it and as a crash leaves it, or to them and one that was tried
    pub now : (file : List ℕ) → MayBe disk (disk_of after.keeper) file → IsLeft (head_of after.keeper) name frames (InDoubt after) file
    -- which is so only behind status 6
    pub sure : (status ≡ 6 → ⊥) → (f : Frame) → InDoubt after f → ⊥
    -- a crash at any moment since the log was opened has left one that opens to the held frames and the first few of those behind them, or to all and one that was tried
    pub since_opened : (file : List ℕ) → disk.left_since (disk_of after.keeper) (disk.moment (disk_of receiver.keeper)) file → Between (head_of after.keeper) name held frames (InDoubt after) file
    -- since the call began, so; or a file that opens as one does that a crash could leave before the log was opened
    pub since_begun : (file : List ℕ) → disk.left_since (disk_of after.keeper) (disk.moment log) file
        → Between (head_of after.keeper) name held frames (InDoubt after) file ⊎ ((before : List ℕ) × MayBeMade disk name log before × OpenAlike (head_of after.keeper) name before file)
