-- What a run over the members of an input leaves in the two files of a store, said of their bytes.
use Rattle.std.specs.Prelude.{◌≡◌, ◌⊎◌, ℕ, true, ◌++◌}
use Rattle.news_types.specs.Names.{Bytes}
use Rattle.news_types.specs.History.{History}
use Rattle.news_types.specs.declared.entry.Entry.{Entry}
use Rattle.news_io.specs.Disk.{DiskMeaning}
use Rattle.news_io.specs.Left.{IsLeft, Between}
use Rattle.news_pair.specs.Keeper.{pair_of}
use Rattle.news_pair.specs.Stands.{log_disk, side_disk}
use Rattle.news_pair.specs.declared.pair.Pair.{Pair}
use Rattle.news_room.specs.Stands.{Stands, in_doubt}
use Rattle.news_room.specs.declared.room.Room.{Room}
use Rattle.store_files.specs.Files.{Files, OpenTo, OpenAlike, MayLeave, MayBe, LeftSince}

-- nothing is in doubt
abbrev pub NoneInDoubt : Entry → Type 0
NoneInDoubt e = ⊥

-- From files that were opened as a room with the list h to the room behind the run, of this store; the status tells how it ended.
pub record FilesLeft {D : Type 0} (disk : DiskMeaning D) (log side : D) (store : Bytes) (room after : Room (Pair D)) (h : History) (status : ℕ) : Type 0 where
  -- the list goes on
  pub list : History
  pub more : (more : History) × (list ≡ more ++ h)
  pub stands : Stands (pair_of disk) after (record { store = store; told = true; list = list })
  -- the files open to it, as a read gives them and as a crash leaves them, or to it with an entry that was tried
  pub now : (files : Files) → MayBe disk (log_disk after.keeper) (side_disk after.keeper) files → IsLeft (OpenTo store) list (in_doubt (pair_of disk) after) files
  -- which is so only behind status 6
  pub sure : (status ≡ 6 → ⊥) → (e : Entry) → in_doubt (pair_of disk) after e → ⊥
  -- a crash at any moment since the files were opened has left files that open to h and the first few of the entries behind it, or to all and one that was tried
  pub since_opened : (files : Files) → LeftSince disk (log_disk after.keeper) (side_disk after.keeper) (disk.moment (log_disk room.keeper)) files
      → Between (OpenTo store) h list NoneInDoubt (in_doubt (pair_of disk) after) files
  -- since the call began, so; or files that open as those do that a crash could leave before it
  pub since_begun : (files : Files) → LeftSince disk (log_disk after.keeper) (side_disk after.keeper) (disk.moment log) files
      → Between (OpenTo store) h list NoneInDoubt (in_doubt (pair_of disk) after) files ⊎ ((before : Files) × MayLeave disk log side before × OpenAlike store before files)
