-- What `receive` does to the log and the output, and with which status it ends.
use Rattle.std.specs.Prelude.{◌≡◌, ◌⊎◌, ◌≤◌, ℕ, Bool, true, List, [], length}
use Rattle.news_types.specs.Names.{Bytes}
use Rattle.news_types.specs.Frames.{Frame}
use Rattle.news_io.specs.Disk.{DiskMeaning}
use Rattle.news_io.specs.Faults.{Rose}
use Rattle.news_io.specs.Sink.{SinkMeaning}
use Rattle.news_io.specs.Source.{SourceMeaning}
use Rattle.run_status.specs.Output.{Told}
use Rattle.run_status.specs.Status.{number_of, line_of}
use Rattle.news_journal.specs.Journal.{journal_of}
use Rattle.news_journal.specs.Stands.{disk_of}
use Rattle.news_journal.specs.declared.log.Journal.{Journal}
use Rattle.feed_receiver.specs.declared.receiver.Receiver.{Receiver}
use Rattle.frame_run.specs.Input.{AreFrames}
use Rattle.frame_run.specs.Status.{IsRun, IsComplete}
use Rattle.receiver_files.specs.Refusals.{status_of}
use Rattle.receiver_files.specs.Opening.{IsRefused, IsOpenReceiver}
use Rattle.receiver_files.specs.LogLeft.{LogLeft}
use Rattle.receiver_files.specs.declared.refusal.Refusal.{Refusal}

-- the most bytes of an input
abbrev pub LONGEST_INPUT : ℕ
LONGEST_INPUT = 4294967296

-- the status, and the line that tells it
pub record IsStopped {O : Type 0} (sink : SinkMeaning O) (why : Refusal) (old new : O) (status : ℕ) : Type 0 where
  pub status_is : status ≡ number_of (status_of why)
  pub line : Told sink old new (line_of (status_of why))

module _ {D O S : Type 0} (disk : DiskMeaning D) (source : SourceMeaning S) (sink : SinkMeaning O) (name : Bytes)
    (log log' : D) (i i' : S) (o o' : O) (status : ℕ) where
  -- the file does not serve, and nothing was read
  pub record NotBegun : Type 0 where
    pub why : Refusal
    pub refused : IsRefused disk name log log' why
    pub stopped : IsStopped sink why o o' status
    pub input_same : i' ≡ i

  -- the file was opened as a receiver, which took the frames of the input, and is left by the receiver behind the last of them
  pub record HasReceived : Type 0 where
    pub receiver : Receiver (Journal D)
    pub opened : IsOpenReceiver disk name log receiver
    pub after : Receiver (Journal D)
    pub same : log' ≡ disk_of after.keeper
    pub ran : (told : Bool) → (told ≡ true → disk.tells log)
        → IsRun (journal_of disk) source sink LONGEST_INPUT i i' receiver after o o' (record { name = name; told = told; frames = opened.frames }) status
    pub left : disk.tells log → LogLeft disk name log receiver after opened.frames status
    -- where nothing failed, and the input is whole frames, everything was answered, or the log was full, or memory was wanting
    pub complete : source.tells i → length (source.ahead i) ≤ LONGEST_INPUT → (frames : List Frame) → AreFrames (source.ahead i) frames []
        → (Rose (source.faults i) (source.faults i') → ⊥) → (Rose (sink.faults o) (sink.faults o') → ⊥) → (Rose (disk.faults log) (disk.faults log') → ⊥) → IsComplete status

  abbrev pub IsReceive : Type 0
  IsReceive = NotBegun ⊎ HasReceived

-- the file is not refused for its bytes, and a failure is told only where the count of the disk rose
pub record IsServed (before now status : ℕ) : Type 0 where
  pub own : status ≡ 3 → ⊥
  pub whole : status ≡ 7 → ⊥
  pub failed : status ≡ 6 → Rose before now
