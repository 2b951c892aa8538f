-- What a command does that only looks at its store: `check`, `archive`, `contents`.
use Rattle.std.specs.Prelude.{◌≡◌, ◌⊎◌, ℕ, List, length}
use Rattle.news_types.specs.Names.{Bytes}
use Rattle.news_types.specs.History.{History}
use Rattle.news_io.specs.Disk.{DiskGains}
use Rattle.news_io.specs.Outside.{Meanings, Outside, Files, FilesTell, read, MayBe, store_faults}
use Rattle.news_journal.specs.Opened.{Still}
use Rattle.news_room.specs.Log.{IsStored}
use Rattle.program_run.specs.Opens.{OpenTo, AreBytes}
use Rattle.program_run.specs.Damage.{Finders}
use Rattle.program_run.specs.Refused.{NotOpened}
use Rattle.program_run.specs.Telling.{Unread}

module _ {D S O C L : Type 0} (m : Meanings D S O C L) (before : Outside D S O C L) where
  -- with these disks
  abbrev pub having : D → D → Outside D S O C L
  having log side = record before { log = log; side = side }

  -- beside whatever a crash leaves of this side, the log opens to the list
  abbrev pub OpensBeside : D → Bytes → History → List ℕ → Type 0
  OpensBeside side store list log = (s : List ℕ) → m.disk.may_leave side s → AreBytes (log, s) → OpenTo store (log, s) list

  -- The files of a store opened to its list, as these disks. The side is as it was; a crash since leaves the log as one
  -- could before, or one that opens to the list.
  pub record Opened (log side : D) (store : Bytes) (list : History) : Type 0 where
    pub long : length store ≡ 16
    pub stored : IsStored list
    pub opens : FilesTell m before → AreBytes (read m before) → OpenTo store (read m before) list
    -- whatever a read gives and a crash leaves from then on opens to it
    pub holds : FilesTell m before → (files : Files) → MayBe m (having log side) files → AreBytes files → OpenTo store files list
    pub crash : FilesTell m before → DiskGains m.disk before.log log (λ c. m.disk.may_leave before.log c ⊎ OpensBeside side store list c)
    pub still : m.disk.tells before.side → Still m.disk before.side side
    pub calm : store_faults m (having log side) ≡ store_faults m before

  module _ (after : Outside D S O C L) (number : ℕ) where
    -- they opened, and this was told of the store and its list
    pub record HasLooked (Told : Bytes → History → Type 0) : Type 0 where
      pub store : Bytes
      pub list : History
      pub opened : Opened after.log after.side store list
      pub told : Told store list

-- they opened so, or did not
abbrev pub Looked : {D S O C L : Type 0} → Finders → Meanings D S O C L → Outside D S O C L → Outside D S O C L → ℕ → (Bytes → History → Type 0) → Type 0
Looked find m before after number Told = Unread before after × (NotOpened find m before after number ⊎ HasLooked m before after number Told)
