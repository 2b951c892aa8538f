-- What the bytes of a log and its side open to, and why they do not serve.
use Rattle.std.specs.Prelude.{◌≡◌, ◌⊎◌, ℕ, ◌+◌, ◌<◌, Bool, true, false, List, map, All, Option, Some, None, length}
use Rattle.news_types.specs.Names.{Bytes}
use Rattle.news_types.specs.History.{History}
use Rattle.news_types.specs.Doubt as doubt
use Rattle.entry_codec.specs.Spelling.{entry_bytes}
use Rattle.news_io.specs.declared.record.Record.{Record}
use Rattle.news_io.specs.Disk.{DiskMeaning, DiskGains}
use Rattle.news_io.specs.Faults.{Rose}
use Rattle.news_journal.specs.declared.header.Header.{Header}
use Rattle.news_journal.specs.declared.header.Header.TheVariants as header
use Rattle.news_journal.specs.Opened.{Still, payloads}
use Rattle.news_pair.specs.declared.pair.Pair.{Pair}
use Rattle.news_pair.specs.declared.fault.PairFault.{PairFault}
use Rattle.news_pair.specs.declared.opening.OpenedPair.{OpenedPair}
use Rattle.news_pair.specs.Pair.{PairOpens}
use Rattle.news_pair.specs.Placed.{pair_records}
use Rattle.news_pair.specs.Damage.{pair_damage}
use Rattle.news_pair.specs.Opened.{OpensStill}
use Rattle.news_pair.specs.Stands.{log_disk, side_disk}
use Rattle.news_pair.specs.Keeper.{pair_of}
use Rattle.news_room.specs.Log.{IsStored, OpensTo}
use Rattle.news_room.specs.Opening.{HasBadRecord, bytes_of}
use Rattle.news_room.specs.Opening as room
use Rattle.news_room.specs.declared.room.Room.{Room}
use Rattle.store_files.specs.Holds.{Holds}
use Rattle.store_files.specs.Kinds.{IsOther, IsOtherSide}
use Rattle.store_files.specs.declared.trouble.Trouble.{Trouble}
use Rattle.store_files.specs.declared.trouble.Trouble.TheVariants as trouble

-- the files are a log of this store and its side, and what they hold is the list
pub record Opens (log side : List ℕ) (store : Bytes) (h : History) : Type 0 where
  pub pair : PairOpens store log side (doubt.payloads entry_bytes h)
  pub kept : IsStored h

-- the files are a pair, and the first of their records that may not follow is damaged there, in the side or in the log
pub record HasNoList (log side : List ℕ) (in_side : Bool) (at : ℕ) (found : Option ℕ) : Type 0 where
  pub whole : pair_damage log side ≡ None
  pub store : Bytes
  pub long : length store ≡ 16
  pub pair : PairOpens store log side (payloads (pair_records log side))
  pub damage : HasBadRecord (pair_records log side) in_side at found

-- what the bytes say to each trouble; only packing finds a full side
abbrev pub Cause : List ℕ → List ℕ → Trouble → Type 0
Cause log side trouble.WrongStore = IsOther log side
Cause log side trouble.Store = Unit {0}
Cause log side (trouble.Damaged at found) = ((pair_damage log side ≡ Some (PairFault.Damaged at found)) ⊎ HasNoList log side false at found) × (IsOther log side → ⊥)
Cause log side (trouble.DamagedSide at found) = ((pair_damage log side ≡ Some (PairFault.DamagedSide at found)) ⊎ HasNoList log side true at found) × (IsOther log side → ⊥)
Cause log side trouble.Full = ⊥
Cause log side trouble.Memory = Unit {0}

-- a trouble that no bytes show: a disk failed, or there was no memory
abbrev pub IsNotOfBytes : Trouble → Type 0
IsNotOfBytes trouble.Store = Unit {0}
IsNotOfBytes trouble.Memory = Unit {0}
IsNotOfBytes t = ⊥

-- a failure is told only where the count rose, and else it is as it was
abbrev pub TroubleCounts : ℕ → ℕ → Trouble → Type 0
TroubleCounts before now trouble.Store = Rose before now
TroubleCounts before now t = now ≡ before

-- what reading the header of a side answers
abbrev pub SideCause : Bytes → List ℕ → Trouble → Type 0
SideCause store side trouble.WrongStore = IsOtherSide store side
SideCause store side trouble.Store = Unit {0}
SideCause store side trouble.Memory = Unit {0}
SideCause store side _ = ⊥

-- why a pair that was opened is no newsroom's: an entry may not follow; a receiver's log is no pair
abbrev pub IsNoRoom : Header → List Record → Trouble → Type 0
IsNoRoom (header.Receiver name) records t = t ≡ trouble.WrongStore
IsNoRoom (header.Room store) records (trouble.Damaged at found) = (length store ≡ 16) × HasBadRecord records false at found
IsNoRoom (header.Room store) records (trouble.DamagedSide at found) = (length store ≡ 16) × HasBadRecord records true at found
IsNoRoom (header.Room store) records trouble.Memory = Unit {0}
IsNoRoom (header.Room store) records _ = ⊥

-- the room of a pair that was opened
pub record IsRoomOf {D : Type 0} (disk : DiskMeaning D) (opened : OpenedPair D) (r : Room (Pair D)) : Type 0 where
  pub store : Bytes
  pub long : length store ≡ 16
  pub header_is : opened.header ≡ header.Room store
  pub room : room.IsOpened (pair_of disk) opened.pair store opened.records r

-- the same, with the pair's records
pub record IsListedOf {D : Type 0} (disk : DiskMeaning D) (opened : OpenedPair D) (r : Room (Pair D)) (records : List Record) : Type 0 where
  pub room : IsRoomOf disk opened r
  pub few : length records < 2147483648
  pub places : All (λ (x : Record). x.at < 4294967296) records
  pub records_are : records ≡ opened.records

module _ {D : Type 0} (disk : DiskMeaning D) where
  -- a crash leaves a log as before, or one that opens to the same list with whatever the side then is: its base may have been put right
  abbrev pub Reopens : D → D → D → D → Type 0
  Reopens log side log' side' = DiskGains disk log log' (λ c. disk.may_leave log c ⊎ OpensStill (disk.seen log) (disk.seen side) (disk.may_leave side') c)

  -- the files do not serve; the side is as it was, and so is the log where it is another's
  pub record IsRefused (log side log' side' : D) (t : Trouble) : Type 0 where
    pub cause : disk.tells log → disk.tells side → Cause (disk.seen log) (disk.seen side) t
    pub count : TroubleCounts (disk.faults log + disk.faults side) (disk.faults log' + disk.faults side') t
    pub wrong : t ≡ trouble.WrongStore → disk.tells log → disk.tells side → Still disk log log'
    pub crash : disk.tells log → disk.tells side → Reopens log side log' side'
    pub still : disk.tells side → Still disk side side'

  -- the room of a log and its side: it holds their list, and so does what a crash leaves of them
  pub record IsOpenRoom (log side : D) (r : Room (Pair D)) : Type 0 where
    pub store : Bytes
    pub long : length store ≡ 16
    pub history : History
    pub bytes : disk.tells log → disk.tells side → Opens (disk.seen log) (disk.seen side) store history
    pub whole : disk.tells log → disk.tells side → pair_damage (disk.seen log) (disk.seen side) ≡ None
    pub holds : (told : Bool) → (told ≡ true → disk.tells log × disk.tells side) → Holds (pair_of disk) r (record { store = store; told = told; list = history }) 65
    -- nothing is in doubt
    pub quiet : (pair_of disk).most_calls r.keeper ≡ 4
    pub calm : (pair_of disk).faults r.keeper ≡ disk.faults log + disk.faults side
    pub crash : disk.tells log → disk.tells side
        → DiskGains disk log (log_disk r.keeper) (λ c. disk.may_leave log c ⊎ ((s : List ℕ) → disk.may_leave (side_disk r.keeper) s → Opens c s store history))
    pub still : disk.tells side → Still disk side (side_disk r.keeper)

  -- the room of a log and its side, and the records of its list: they are few, and each stands at a place that a file can have
  pub record IsOpenListed (log side : D) (r : Room (Pair D)) (records : List Record) : Type 0 where
    pub room : IsOpenRoom log side r
    pub few : length records < 2147483648
    pub places : All (λ (x : Record). x.at < 4294967296) records
    pub opens : OpensTo (map bytes_of records) room.history
