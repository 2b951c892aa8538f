-- The two files of a store, as a read gives them or a crash may leave them, and the list that they open to.
use Rattle.std.specs.Prelude.{◌≡◌, ℕ, List, Option}
use Rattle.news_types.specs.Names.{Bytes}
use Rattle.news_types.specs.History.{History}
use Rattle.news_io.specs.Disk.{DiskMeaning}
use Rattle.news_journal.specs.Stands.{Outcome}
use Rattle.news_pair.specs.Pair.{PairFinds}
use Rattle.store_files.specs.Store.{Opens}

-- the bytes of the log and of its side
abbrev pub Files : Type 0
Files = List ℕ × List ℕ

-- they are this store's, and open to this list
abbrev pub OpenTo : Bytes → Files → History → Type 0
OpenTo store files h = Opens files.0 files.1 store h

-- both open to one list, or none does
abbrev pub OpenAlike : Bytes → Files → Files → Type 0
OpenAlike store files others = (found : Option (List Bytes)) × PairFinds store files.0 files.1 found × PairFinds store others.0 others.1 found

module _ {D : Type 0} (disk : DiskMeaning D) (log side : D) where
  -- what a crash may leave now
  abbrev pub MayLeave : Files → Type 0
  MayLeave files = disk.may_leave log files.0 × disk.may_leave side files.1

  -- what a read gives now, or a crash may leave
  abbrev pub MayBe : Files → Type 0
  MayBe files = Outcome (disk.seen log) (disk.may_leave log) files.0 × Outcome (disk.seen side) (disk.may_leave side) files.1

  -- what a crash may have left of the log at some moment since an earlier one, beside what it may leave of the side now
  abbrev pub LeftSince : ℕ → Files → Type 0
  LeftSince since files = disk.left_since log since files.0 × disk.may_leave side files.1

  -- whatever a crash leaves, and whatever a read gives, is this list
  abbrev pub FilesHold : Bytes → History → Type 0
  FilesHold store h = (files : Files) → MayBe files → OpenTo store files h

  -- whatever a crash leaves is this list
  abbrev pub CrashKeeps : Bytes → History → Type 0
  CrashKeeps store h = (files : Files) → MayLeave files → OpenTo store files h
