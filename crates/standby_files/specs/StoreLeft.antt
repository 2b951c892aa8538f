-- What a run over record lines leaves in the two files of a standby's store, said of their bytes.
use Rattle.std.specs.Prelude.{◌≡◌, ◌⊎◌, ℕ, true, List, [], ◌∷◌, ◌++◌}
use Rattle.news_types.specs.Names.{Bytes}
use Rattle.news_io.specs.Disk.{DiskMeaning}
use Rattle.news_journal.specs.Created.{IsInTheMaking}
use Rattle.news_journal.specs.declared.header.Header.TheVariants as header
use Rattle.news_pair.specs.Keeper.{pair_of}
use Rattle.news_pair.specs.Stands.{log_disk, side_disk}
use Rattle.news_pair.specs.declared.pair.Pair.{Pair}
use Rattle.room_standby.specs.Holds.{IsOfEntry}
use Rattle.room_standby.specs.declared.standby.Standby.{Standby}
use Rattle.store_files.specs.Files.{Files, OpenAlike, MayBe, LeftSince}
use Rattle.standby_files.specs.Answers.{Stands}
use Rattle.standby_files.specs.Opening.{OpenTo}

module _ (store : Bytes) where
  -- the files open to the payloads, or to these and one that was tried
  abbrev pub IsLeft : List Bytes → (Bytes → Type 0) → Files → Type 0
  IsLeft list Tried both = OpenTo store both list ⊎ ((x : Bytes) × Tried x × OpenTo store both (list ++ x ∷ []))

  -- the files open to the held ones and the first few of those behind them, or to all and one that was tried
  pub record Between (held list : List Bytes) (Tried : Bytes → Type 0) (both : Files) : Type 0 where
    pub part : List Bytes
    pub beyond : (more : List Bytes) × (part ≡ held ++ more)
    pub within : (more : List Bytes) × (list ≡ part ++ more)
    pub left : IsLeft part (λ x. (part ≡ list) × Tried x) both

module _ {D : Type 0} (disk : DiskMeaning D) where
  -- an entry's payload that was tried, and that a crash may leave behind those that are held
  abbrev pub InDoubt : Standby (Pair D) → Bytes → Type 0
  InDoubt s x = IsOfEntry x × (pair_of disk).doubts s.keeper x

  -- what a crash may have left of the files before they were opened: what it might have left before, or, of an empty log, one in the making
  abbrev pub MayBeMade : Bytes → D → D → Files → Type 0
  MayBeMade store log side both = (disk.may_leave log both.0 ⊎ ((disk.seen log ≡ []) × IsInTheMaking (header.Room store) both.0)) × disk.may_leave side both.1

  -- From files that were opened as this store's standby with these payloads, to the standby behind the run; the status tells how it ended.
  pub record StoreLeft (store : Bytes) (log side : D) (standby after : Standby (Pair D)) (held : List Bytes) (status : ℕ) : Type 0 where
    -- the list goes on
    pub list : List Bytes
    pub more : (more : List Bytes) × (list ≡ held ++ more)
    pub stands : Stands (pair_of disk) after (record { told = true; held = list })
    pub label : (pair_of disk).label after.keeper ≡ store
    -- the files open to it, as a read gives them and as a crash leaves them, or to it and one that was tried
    pub now : (both : Files) → MayBe disk (log_disk after.keeper) (side_disk after.keeper) both → IsLeft store list (InDoubt after) both
    -- which is so only behind status 6
    pub sure : (status ≡ 6 → ⊥) → (x : Bytes) → InDoubt after x → ⊥
    -- a crash at any moment since the files were opened has left files that open to the held payloads and the first few of those behind them, or to all and one that was tried
    pub since_opened : (both : Files) → LeftSince disk (log_disk after.keeper) (side_disk after.keeper) (disk.moment (log_disk standby.keeper)) both → Between store held list (InDoubt after) both
    -- since the call began, so; or files that open as those do that a crash could leave before they were opened
    pub since_begun : (both : Files) → LeftSince disk (log_disk after.keeper) (side_disk after.keeper) (disk.moment log) both
        → Between store held list (InDoubt after) both ⊎ ((before : Files) × MayBeMade store log side before × OpenAlike store before both)
