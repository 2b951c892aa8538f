-- Whose files they are, and what opening those of a newsroom as a standby's does.
use Rattle.std.specs.Prelude.{◌≡◌, ◌⊎◌, ℕ, ◌+◌, Bool, true, false, IsTrue, ◌↔◌, List, [], length}
use Rattle.news_types.specs.Names.{Bytes}
use Rattle.news_types.specs.History.{History}
use Rattle.news_types.specs.Doubt.{payloads}
use Rattle.entry_codec.specs.Spelling.{entry_bytes}
use Rattle.news_io.specs.Disk.{DiskMeaning, DiskGains}
use Rattle.news_journal.specs.Log.{records}
use Rattle.news_journal.specs.Opened.{Still}
use Rattle.news_journal.specs.declared.header.Header.{Header}
use Rattle.news_journal.specs.declared.header.Header.TheVariants as header
use Rattle.news_pair.specs.Keeper.{pair_of}
use Rattle.news_pair.specs.Stands.{log_disk, side_disk}
use Rattle.news_pair.specs.declared.pair.Pair.{Pair}
use Rattle.room_standby.specs.declared.standby.Standby.{Standby}
use Rattle.room_standby.specs.declared.standby.StandbyFault.{StandbyFault}
use Rattle.room_standby.specs.declared.standby.StandbyFault.TheVariants as standby
use Rattle.store_files.specs.Files.{FilesHold}
use Rattle.store_files.specs.Store.{Opens, TroubleCounts, Reopens}
use Rattle.store_files.specs.Store as files
use Rattle.store_files.specs.declared.trouble.Trouble.{Trouble}
use Rattle.store_files.specs.declared.trouble.Trouble.TheVariants as trouble
use Rattle.standby_files.specs.Answers.{Stands}
use Rattle.standby_files.specs.Opening.{IsOtherStore}
use Rattle.standby_files.specs.declared.opening.Kind.{Kind}
use Rattle.standby_files.specs.declared.opening.Kind.TheVariants.{Empty, Other, Own}

-- ---- by their lengths and the log's header

-- whether a header is another store's
abbrev pub OtherHeader : Header → Bytes → Bool → Type 0
OtherHeader (header.Room owner) store other = IsTrue other ↔ (owner ≡ store → ⊥)
OtherHeader (header.Receiver name) store other = other ≡ false

abbrev pub BesideEmpty : List ℕ → Kind → Type 0
BesideEmpty side Empty = side ≡ []
BesideEmpty side Other = side ≡ [] → ⊥
BesideEmpty side Own = ⊥

abbrev pub ByHeader : Bytes → List ℕ → Kind → Type 0
ByHeader store log Empty = ⊥
ByHeader store log Other = IsOtherStore store log
ByHeader store log Own = IsOtherStore store log → ⊥

abbrev pub IsKind : Bytes → List ℕ → List ℕ → Kind → Type 0
IsKind store log side Empty = (log ≡ []) × (side ≡ [])
IsKind store log side Other = IsOtherStore store log ⊎ ((log ≡ []) × (side ≡ [] → ⊥))
IsKind store log side Own = (log ≡ [] → ⊥) × (IsOtherStore store log → ⊥)

-- what it comes from that records open to no standby
abbrev pub trouble_of_standby : StandbyFault → Trouble
trouble_of_standby (standby.Damaged at found) = trouble.Damaged at found
trouble_of_standby standby.Memory = trouble.Memory

-- ---- files that are a newsroom's

module _ {D : Type 0} (disk : DiskMeaning D) (store : Bytes) (log side : D) where
  -- they are refused as any newsroom's are, or for another store's
  abbrev pub OwnCause : Trouble → Type 0
  OwnCause trouble.WrongStore = files.Cause (disk.seen log) (disk.seen side) trouble.WrongStore ⊎ IsOtherStore store (disk.seen log)
  OwnCause t = files.Cause (disk.seen log) (disk.seen side) t

  pub record IsOwnRefused (log' side' : D) (t : Trouble) : Type 0 where
    pub cause : disk.tells log → disk.tells side → OwnCause t
    pub count : TroubleCounts (disk.faults log + disk.faults side) (disk.faults log' + disk.faults side') t
    -- the log of another's files is as it was
    pub wrong : t ≡ trouble.WrongStore → disk.tells log → disk.tells side → Still disk log log' ⊎ IsOtherStore store (disk.seen log)
    pub crash : disk.tells log → disk.tells side → Reopens disk log side log' side'
    pub still : disk.tells side → Still disk side side'

  -- the standby of their list
  pub record IsOwnStandby (s : Standby (Pair D)) : Type 0 where
    pub list : History
    pub opens : disk.tells log → disk.tells side → Opens (disk.seen log) (disk.seen side) store list
    pub stands : (told : Bool) → (told ≡ true → disk.tells log × disk.tells side) → Stands (pair_of disk) s (record { told = told; held = payloads entry_bytes list })
    pub label : (pair_of disk).label s.keeper ≡ store
    pub quiet : (pair_of disk).most_calls s.keeper ≡ 4
    pub used : (pair_of disk).used s.keeper ≡ 65 + length (records (payloads entry_bytes list))
    pub calm : (pair_of disk).faults s.keeper ≡ disk.faults log + disk.faults side
    pub files : disk.tells log → disk.tells side → FilesHold disk (log_disk s.keeper) (side_disk s.keeper) store list
    pub crash : disk.tells log → disk.tells side
        → DiskGains disk log (log_disk s.keeper) (λ c. disk.may_leave log c ⊎ ((s' : List ℕ) → disk.may_leave (side_disk s.keeper) s' → Opens c s' store list))
    pub still : disk.tells side → Still disk side (side_disk s.keeper)
