-- What opening two files as the store of a standby does, and what it leaves.
use Rattle.std.specs.Prelude.{◌≡◌, ◌⊎◌, ℕ, ◌+◌, Bool, true, List, [], length}
use Rattle.news_types.specs.Names.{Bytes}
use Rattle.news_types.specs.History.{History}
use Rattle.news_types.specs.Doubt.{payloads}
use Rattle.entry_codec.specs.Spelling.{entry_bytes}
use Rattle.news_io.specs.Disk.{DiskMeaning, LeavesOnly}
use Rattle.news_journal.specs.Created.{IsInTheMaking}
use Rattle.news_journal.specs.Log.{records}
use Rattle.news_journal.specs.Opened.{Still}
use Rattle.news_journal.specs.declared.header.Header.TheVariants as header
use Rattle.news_pair.specs.Keeper.{pair_of}
use Rattle.news_pair.specs.Pair.{PairOpens}
use Rattle.news_pair.specs.Stands.{log_disk, side_disk}
use Rattle.news_pair.specs.declared.pair.Pair.{Pair}
use Rattle.room_standby.specs.declared.standby.Standby.{Standby}
use Rattle.store_files.specs.Files.{Files, MayBe}
use Rattle.store_files.specs.Kinds.{IsOfStore, IsOther}
use Rattle.store_files.specs.Store.{Opens, TroubleCounts}
use Rattle.store_files.specs.Store as files
use Rattle.store_files.specs.declared.trouble.Trouble.{Trouble}
use Rattle.store_files.specs.declared.trouble.Trouble.TheVariants as trouble
use Rattle.standby_files.specs.Answers.{Stands}

-- ---- what they hold

-- what the standby of this store finds in them, as payloads, oldest first: two empty files hold none
abbrev pub Gives : Bytes → List ℕ → List ℕ → List Bytes → Type 0
Gives store log side held = ((log ≡ []) × (side ≡ []) × (held ≡ [])) ⊎ ((h : History) × Opens log side store h × (held ≡ payloads entry_bytes h))

-- they are this store's, and open to these payloads
abbrev pub OpenTo : Bytes → Files → List Bytes → Type 0
OpenTo store both held = PairOpens store both.0 both.1 held

-- ---- why they do not serve

-- the log is another store's, by its header alone
pub record IsOtherStore (store : Bytes) (log : List ℕ) : Type 0 where
  pub owner : Bytes
  pub of : IsOfStore owner log
  pub other : owner ≡ store → ⊥

-- the log is another store's; or it is empty, and its side is not; or it is not empty, and they are no newsroom's
abbrev pub IsNotMine : Bytes → List ℕ → List ℕ → Type 0
IsNotMine store log side = IsOtherStore store log ⊎ (((log ≡ []) × (side ≡ [] → ⊥)) ⊎ ((log ≡ [] → ⊥) × IsOther log side))

-- what the bytes say to each trouble; damage is that of any newsroom's files
abbrev pub Cause : Bytes → List ℕ → List ℕ → Trouble → Type 0
Cause store log side trouble.WrongStore = IsNotMine store log side
Cause store log side trouble.Store = Unit {0}
Cause store log side trouble.Memory = Unit {0}
Cause store log side t = (log ≡ [] → ⊥) × (IsOtherStore store log → ⊥) × files.Cause log side t

-- ---- what is left

module _ {D : Type 0} (disk : DiskMeaning D) (store : Bytes) where
  -- whatever a crash leaves, and whatever a read gives, is these payloads
  abbrev pub FilesKeep : D → D → List Bytes → Type 0
  FilesKeep log side held = (both : Files) → MayBe disk log side both → OpenTo store both held

  module _ (log side : D) where
    -- the log opens, beside whatever the side then is, to what the files held
    abbrev pub OpensAgain : D → List ℕ → Type 0
    OpensAgain side' c = (held : List Bytes) → Gives store (disk.seen log) (disk.seen side) held → (s : List ℕ) → disk.may_leave side' s → PairOpens store c s held

    -- what a crash may have left of the log until the files were opened: what it might have left before; or, of an empty file, a log in the making; or
    -- one that opens to the same
    abbrev pub MayGain : D → List ℕ → Type 0
    MayGain side' c = disk.may_leave log c ⊎ (((disk.seen log ≡ []) × IsInTheMaking (header.Room store) c) ⊎ OpensAgain side' c)

    -- the files do not serve; the side is as it was, and so is the log where it is another's
    pub record IsRefused (log' side' : D) (t : Trouble) : Type 0 where
      pub cause : disk.tells log → disk.tells side → Cause store (disk.seen log) (disk.seen side) t
      pub count : TroubleCounts (disk.faults log + disk.faults side) (disk.faults log' + disk.faults side') t
      pub wrong : t ≡ trouble.WrongStore → disk.tells log → disk.tells side → Still disk log log'
      pub crash : disk.tells log → disk.tells side → LeavesOnly disk log log' (MayGain side')
      pub still : disk.tells side → Still disk side side'

    -- The standby of this store that the files open to. It has their payloads, and from then on each read and each crash gives them: two empty files were
    -- made a store without a record.
    pub record IsOpenStandby (s : Standby (Pair D)) : Type 0 where
      pub held : List Bytes
      pub gives : disk.tells log → disk.tells side → Gives store (disk.seen log) (disk.seen side) held
      pub stands : (told : Bool) → (told ≡ true → disk.tells log × disk.tells side) → Stands (pair_of disk) s (record { told = told; held = held })
      pub label : (pair_of disk).label s.keeper ≡ store
      -- nothing is in doubt
      pub quiet : (pair_of disk).most_calls s.keeper ≡ 4
      pub used : (pair_of disk).used s.keeper ≡ 65 + length (records held)
      pub calm : (pair_of disk).faults s.keeper ≡ disk.faults log + disk.faults side
      pub keeps : disk.tells log → disk.tells side → FilesKeep (log_disk s.keeper) (side_disk s.keeper) held
      pub crash : disk.tells log → disk.tells side → LeavesOnly disk log (log_disk s.keeper) (MayGain (side_disk s.keeper))
      pub still : disk.tells side → Still disk side (side_disk s.keeper)
