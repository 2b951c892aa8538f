-- What opening a file as a receiver's log does, and what it leaves.
use Rattle.std.specs.Prelude.{◌≡◌, ◌⊎◌, ℕ, ◌+◌, Bool, true, List, [], ◌∷◌, ◌++◌, IsTrue}
use Rattle.news_types.specs.Names.{Bytes, is_name}
use Rattle.news_types.specs.Frames.{Frame}
use Rattle.news_io.specs.Disk.{DiskMeaning, LeavesOnly}
use Rattle.news_journal.specs.Created.{IsInTheMaking}
use Rattle.news_journal.specs.Journal.{journal_of}
use Rattle.news_journal.specs.Log.{header_bytes}
use Rattle.news_journal.specs.Opened.{Still}
use Rattle.news_journal.specs.Stands.{Outcome, disk_of, head_of}
use Rattle.news_journal.specs.declared.header.Header.TheVariants as header
use Rattle.news_journal.specs.declared.log.Journal.{Journal}
use Rattle.feed_receiver.specs.Holds.{Holds}
use Rattle.feed_receiver.specs.declared.receiver.Receiver.{Receiver}
use Rattle.frame_run.specs.Answers.{record_bytes}
use Rattle.receiver_files.specs.Log.{Gives, OpenTo, Cause, RefusalCounts}
use Rattle.receiver_files.specs.declared.refusal.Refusal.{Refusal}
use Rattle.receiver_files.specs.declared.refusal.Refusal.TheVariants as refusal

module _ {D : Type 0} (disk : DiskMeaning D) where
  -- what a read gives, or a crash may leave
  abbrev pub MayBe : D → List ℕ → Type 0
  MayBe log file = Outcome (disk.seen log) (disk.may_leave log) file

  module _ (name : Bytes) (log : D) where
    -- what a crash may have left until the log was opened: what it might have left before, or, of an empty file, a log in the making
    abbrev pub MayBeMade : List ℕ → Type 0
    MayBeMade file = disk.may_leave log file ⊎ ((disk.seen log ≡ []) × IsInTheMaking (header.Receiver name) file)

    -- the file was empty, and could not be made a log: the disk has failed
    pub record IsUnmade (log' : D) (why : Refusal) : Type 0 where
      pub empty : disk.seen log ≡ []
      pub why_is : why ≡ refusal.Store
      pub told : disk.tells log'
      pub crash : LeavesOnly disk log log' MayBeMade

    -- the file does not serve; it was only read, or could not be made a log
    pub record IsRefused (log' : D) (why : Refusal) : Type 0 where
      pub cause : disk.tells log → Cause name (disk.seen log) why
      pub count : RefusalCounts (disk.faults log) (disk.faults log') why
      pub left : disk.tells log → Still disk log log' ⊎ IsUnmade log' why

    -- the receiver of this name that the file opens to; from then on each read and each crash gives its frames
    pub record IsOpenReceiver (r : Receiver (Journal D)) : Type 0 where
      pub named : IsTrue (is_name name)
      pub frames : List Frame
      pub gives : disk.tells log → Gives name (disk.seen log) frames
      pub holds : (told : Bool) → (told ≡ true → disk.tells log) → Holds (journal_of disk) r (record { name = name; told = told; frames = frames })
      -- nothing is in doubt
      pub quiet : (journal_of disk).most_calls r.keeper ≡ 4
      pub used : (journal_of disk).used r.keeper ≡ 65 + record_bytes frames
      pub calm : (journal_of disk).faults r.keeper ≡ disk.faults log
      pub keeps : disk.tells log → (file : List ℕ) → MayBe (disk_of r.keeper) file → OpenTo (head_of r.keeper) name file frames
      -- an empty file was made a log without a record, and any other one was only read
      pub made : disk.tells log → disk.seen log ≡ [] → disk.seen (disk_of r.keeper) ≡ header_bytes (header.Receiver name) ++ 0 ∷ []
      pub still : disk.tells log → (disk.seen log ≡ [] → ⊥) → Still disk log (disk_of r.keeper)
      pub crash : disk.tells log → LeavesOnly disk log (disk_of r.keeper) MayBeMade
