-- What `stand-in` does to the log, its side, the input and the output, and with which status it ends.
use Rattle.std.specs.Prelude.{◌≡◌, ◌⊎◌, ◌≤◌, ℕ, ◌+◌, Bool, true, List, [], length}
use Rattle.news_types.specs.Names.{Bytes}
use Rattle.news_io.specs.Disk.{DiskMeaning}
use Rattle.news_io.specs.Faults.{Rose}
use Rattle.news_io.specs.Sink.{SinkMeaning}
use Rattle.news_io.specs.Source.{SourceMeaning}
use Rattle.news_pair.specs.Keeper.{pair_of}
use Rattle.news_pair.specs.Stands.{log_disk, side_disk}
use Rattle.news_pair.specs.declared.pair.Pair.{Pair}
use Rattle.record_lines.specs.Spelling.{Numbered}
use Rattle.room_standby.specs.declared.standby.Standby.{Standby}
use Rattle.frame_run.specs.Status.{IsComplete}
use Rattle.store_files.specs.declared.trouble.Trouble.{Trouble}
use Rattle.standby_files.specs.Input.{AreRecords}
use Rattle.standby_files.specs.Status.{IsRun, AllEntries}
use Rattle.standby_files.specs.Opening.{IsRefused, IsOpenStandby}
use Rattle.standby_files.specs.StoreLeft.{StoreLeft}
use Rattle.standby_files.specs.Telling.{IsStopped}

-- the most bytes of an input
abbrev pub LONGEST_INPUT : ℕ
LONGEST_INPUT = 4294967296

module _ {D S O : Type 0} (disk : DiskMeaning D) (source : SourceMeaning S) (sink : SinkMeaning O) (store : Bytes)
    (log log' side side' : D) (i i' : S) (o o' : O) (status : ℕ) where
  -- the files do not serve, and nothing was read
  pub record NotBegun : Type 0 where
    pub why : Trouble
    pub refused : IsRefused disk store log side log' side' why
    pub stopped : IsStopped sink why o o' status
    pub input_same : i' ≡ i

  -- the files were opened as a standby, which took the record lines of the input, and are left by the standby behind the last of them
  pub record HasStoodIn : Type 0 where
    pub standby : Standby (Pair D)
    pub opened : IsOpenStandby disk store log side standby
    pub after : Standby (Pair D)
    pub same : log' ≡ log_disk after.keeper
    pub same_side : side' ≡ side_disk after.keeper
    pub ran : (told : Bool) → (told ≡ true → disk.tells log × disk.tells side)
        → IsRun (pair_of disk) source sink LONGEST_INPUT i i' standby after o o' (record { told = told; held = opened.held }) status
    pub left : disk.tells log → disk.tells side → StoreLeft disk store log side standby after opened.held status
    -- where nothing failed, and the input is record lines of entries, all were answered, or the log was full, or memory was wanting
    pub complete : source.tells i → length (source.ahead i) ≤ LONGEST_INPUT → (records : List Numbered) → AreRecords (source.ahead i) records [] → AllEntries records
        → (Rose (source.faults i) (source.faults i') → ⊥) → (Rose (sink.faults o) (sink.faults o') → ⊥)
        → (Rose (disk.faults log + disk.faults side) (disk.faults log' + disk.faults side') → ⊥) → IsComplete status

  abbrev pub IsStandIn : Type 0
  IsStandIn = NotBegun ⊎ HasStoodIn
