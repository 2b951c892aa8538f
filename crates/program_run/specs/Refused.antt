-- The files do not serve, and why.
use Rattle.std.specs.Prelude.{◌≡◌, ◌⊎◌, ℕ, true, false, List, length}
use Rattle.news_types.specs.Names.{Bytes}
use Rattle.news_io.specs.Disk.{DiskGains}
use Rattle.news_io.specs.Faults.{Rose}
use Rattle.news_io.specs.Outside.{Meanings, Outside, FilesTell, Files, read, store_faults}
use Rattle.news_journal.specs.Opened.{Still}
use Rattle.store_files.specs.Kinds.{IsOther}
use Rattle.program_run.specs.Opens.{HoldsWith}
use Rattle.program_run.specs.Damage.{Finders, IsDamaged}
use Rattle.run_status.specs.Output.{Told}
use Rattle.run_status.specs.Status.{number_of, line_of}
use Rattle.run_status.specs.declared.status.Status.{Status}
use Rattle.run_status.specs.declared.status.Status.TheVariants as status

-- what the bytes say to each status, to readers of payloads that find this
abbrev pub Cause : Finders → Files → Status → Type 0
Cause find files status.WrongStore = IsOther files.0 files.1
Cause find files status.Store = Unit {0}
Cause find files (status.Damaged at found) = IsDamaged find files.0 files.1 false at found
Cause find files (status.DamagedSide at found) = IsDamaged find files.0 files.1 true at found
Cause find files status.Memory = Unit {0}
Cause find files _ = ⊥

-- a failure is told only where the count rose, and else it is as it was
abbrev pub Counts : ℕ → ℕ → Status → Type 0
Counts before now status.Store = Rose before now
Counts before now why = now ≡ before

module _ {D S O C L : Type 0} (m : Meanings D S O C L) (before after : Outside D S O C L) where
  -- beside whatever a crash leaves of the side, this log holds what a read gave before, of whichever store
  abbrev pub HoldsStill : List ℕ → Type 0
  HoldsStill log = (side : List ℕ) → m.disk.may_leave after.side side → (store : Bytes) → length store ≡ 16
      → HoldsWith store (read m before) (log, side)

-- Nothing was read but the files, and neither of them holds another list than before, whatever a crash left
module _ {D S O C L : Type 0} (find : Finders) (m : Meanings D S O C L) (before after : Outside D S O C L) (number : ℕ) where
  pub record NotOpened : Type 0 where
    pub why : Status
    pub number_is : number ≡ number_of why
    pub cause : FilesTell m before → Cause find (read m before) why
    pub counts : Counts (store_faults m before) (store_faults m after) why
    pub line : Told m.sink before.output after.output (line_of why)
    pub input : after.input ≡ before.input
    pub clock : after.clock ≡ before.clock
    pub links : after.links ≡ before.links
    -- the side is as it was, and so is the log where it is another's; else a crash leaves the log as it could before,
    -- or one that holds the same, since its base may have been put right
    pub side : m.disk.tells before.side → Still m.disk before.side after.side
    pub other : why ≡ status.WrongStore → FilesTell m before → Still m.disk before.log after.log
    pub log : FilesTell m before
        → DiskGains m.disk before.log after.log (λ file. m.disk.may_leave before.log file ⊎ HoldsStill m before after file)
