-- How a command finds the files of a store, and how it leaves them.
use Rattle.std.specs.Prelude.{◌≡◌, ◌⊎◌, ℕ}
use Rattle.news_types.specs.Names.{Bytes}
use Rattle.news_types.specs.History.{History}
use Rattle.news_io.specs.Disk.{DiskMeaning}
use Rattle.news_io.specs.Sink.{SinkMeaning}
use Rattle.news_pair.specs.Stands.{log_disk, side_disk}
use Rattle.news_pair.specs.declared.pair.Pair.{Pair}
use Rattle.news_room.specs.declared.room.Room.{Room}
use Rattle.store_files.specs.Files.{FilesHold}
use Rattle.store_files.specs.Store.{IsRefused, IsOpenRoom}
use Rattle.store_files.specs.declared.trouble.Trouble.{Trouble}
use Rattle.newsdesk_cli.specs.FilesLeft.{FilesLeft}
use Rattle.newsdesk_cli.specs.Telling.{IsStopped}

module _ {D O : Type 0} (disk : DiskMeaning D) (sink : SinkMeaning O) (log log' side side' : D) (o o' : O) (status : ℕ) where
  -- the files do not serve
  pub record NotOpened : Type 0 where
    pub why : Trouble
    pub refused : IsRefused disk log side log' side' why
    pub stopped : IsStopped sink why o o' status

  -- the files were opened, and this told of their store and its list; they hold it as before
  pub record HasLooked (Told : Bytes → History → Type 0) : Type 0 where
    pub room : Room (Pair D)
    pub opened : IsOpenRoom disk log side room
    pub same : log' ≡ log_disk room.keeper
    pub same_side : side' ≡ side_disk room.keeper
    pub files : disk.tells log → disk.tells side → FilesHold disk log' side' opened.store opened.history
    pub told : Told opened.store opened.history

  -- a command that only looks at its store
  abbrev pub IsLook : (Bytes → History → Type 0) → Type 0
  IsLook Told = NotOpened ⊎ HasLooked Told

module _ {D : Type 0} (disk : DiskMeaning D) (log log' side side' : D) (status : ℕ) where
  -- the files were opened as a room, and are left by the room behind all that was done with it
  pub record HasGoneOn : Type 0 where
    pub room : Room (Pair D)
    pub opened : IsOpenRoom disk log side room
    pub after : Room (Pair D)
    pub same : log' ≡ log_disk after.keeper
    pub same_side : side' ≡ side_disk after.keeper
    pub files : disk.tells log → disk.tells side → FilesLeft disk log side opened.store room after opened.history status

-- the files do not serve, and nothing was read
pub record NotBegun {D O S C : Type 0} (disk : DiskMeaning D) (sink : SinkMeaning O) (log log' side side' : D) (i i' : S) (o o' : O) (c c' : C) (status : ℕ) : Type 0 where
  pub why : NotOpened disk sink log log' side side' o o' status
  pub input_same : i' ≡ i
  pub clock_same : c' ≡ c
