-- What `init` does to two files.
use Rattle.std.specs.Prelude.{◌≡◌, ◌⊎◌, ℕ, List, [], ◌∷◌, ◌++◌, length}
use Rattle.news_types.specs.Names.{Bytes}
use Rattle.news_io.specs.Disk.{LeavesOnly}
use Rattle.news_io.specs.Faults.{Rose}
use Rattle.news_io.specs.Outside.{Meanings, Outside, Files, FilesTell, read, MayLeave, store_faults}
use Rattle.news_journal.specs.Created.{IsInTheMaking}
use Rattle.news_journal.specs.Log.{header_bytes}
use Rattle.news_journal.specs.Opened.{Still}
use Rattle.news_journal.specs.declared.header.Header.TheVariants as header
use Rattle.program_run.specs.Opens.{OpenTo}
use Rattle.program_run.specs.Telling.{Unread}
use Rattle.room_reports.specs.Written.{IsStopped}
use Rattle.run_status.specs.declared.status.Status.TheVariants as status

-- the log of a new store: its header, and a closed gate
abbrev pub new_log : Bytes → List ℕ
new_log store = header_bytes (header.Room store) ++ 0 ∷ []

module _ {D S O C L : Type 0} (m : Meanings D S O C L) (before after : Outside D S O C L) (number : ℕ)
    (store : Bytes) where
  -- one of the files is not empty, and both are as they were
  pub record Taken : Type 0 where
    pub cause : FilesTell m before → read m before ≡ ([], []) → ⊥
    pub calm : store_faults m after ≡ store_faults m before
    pub log : Still m.disk before.log after.log
    pub side : Still m.disk before.side after.side
    pub told : IsStopped m.sink status.WrongStore before.output after.output number

  -- what a crash may have left of the log before, or a log in the making
  abbrev pub MayBeMade : List ℕ → Type 0
  MayBeMade file = m.disk.may_leave before.log file ⊎ IsInTheMaking (header.Room store) file

  -- a disk has failed: the log is as it was; or both files were empty, and it may be a log in the making
  pub record Unmade : Type 0 where
    pub rose : Rose (store_faults m before) (store_faults m after)
    pub tells : m.disk.tells before.log → m.disk.tells after.log
    pub log : m.disk.tells before.log → Still m.disk before.log after.log
        ⊎ ((m.disk.seen before.log ≡ []) × (m.disk.tells before.side → m.disk.seen before.side ≡ [])
        × LeavesOnly m.disk before.log after.log MayBeMade)
    pub side : Still m.disk before.side after.side
    pub told : IsStopped m.sink status.Store before.output after.output number

  -- both were empty, and are a store with the empty list, which no crash undoes from then on; before that, one leaves a log
  -- in the making
  pub record Made : Type 0 where
    pub done : number ≡ 0
    pub silent : after.output ≡ before.output
    pub empty : m.disk.tells before.log → m.disk.seen before.log ≡ []
    pub empty_side : m.disk.tells before.side → m.disk.seen before.side ≡ []
    pub bytes : m.disk.tells before.log → m.disk.seen after.log ≡ new_log store
    pub calm : store_faults m after ≡ store_faults m before
    pub tells : m.disk.tells before.log → m.disk.tells after.log
    pub crash : m.disk.tells before.log → LeavesOnly m.disk before.log after.log (IsInTheMaking (header.Room store))
    pub lasts : m.disk.tells before.log → (file : List ℕ) → m.disk.may_leave after.log file → file ≡ new_log store
    pub side : Still m.disk before.side after.side
    pub opens : length store ≡ 16 → FilesTell m before → (files : Files) → MayLeave m after files
        → OpenTo store files []

  abbrev pub IsMade : Type 0
  IsMade = Unread before after × (Taken ⊎ (Unmade ⊎ Made))
