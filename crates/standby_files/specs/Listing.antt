-- The records of a store's list, for whoever reads them one by one.
use Rattle.std.specs.Prelude.{◌≡◌, ◌⊎◌, ℕ, ◌+◌, Bool, true, false, List, length, Option, Some}
use Rattle.news_types.specs.History.{History}
use Rattle.news_io.specs.Disk.{DiskMeaning, DiskGains}
use Rattle.news_io.specs.declared.record.Record.{Record}
use Rattle.news_journal.specs.Log.{records as log_bytes}
use Rattle.news_journal.specs.Opened.{Still, AreFew, payloads}
use Rattle.news_journal.specs.declared.header.Header.{Header}
use Rattle.news_journal.specs.declared.header.Header.TheVariants as header
use Rattle.news_pair.specs.Keeper.{pair_of}
use Rattle.news_pair.specs.Stands.{log_disk, side_disk}
use Rattle.news_pair.specs.declared.pair.Pair.{Pair}
use Rattle.news_pair.specs.declared.opening.OpenedPair.{OpenedPair}
use Rattle.news_room.specs.declared.room.Room.{Room}
use Rattle.room_standby.specs.Holds.{AreOf, IsOfEntry, HasNoEntry}
use Rattle.store_files.specs.Files.{FilesHold}
use Rattle.store_files.specs.Store.{Opens, IsOpenRoom}
use Rattle.store_files.specs.declared.trouble.Trouble.{Trouble}
use Rattle.store_files.specs.declared.trouble.Trouble.TheVariants as trouble
use Rattle.standby_files.specs.declared.listing.Listed.{Listed}

-- ---- records that are of no entry

-- the payload of this record of the side, or of the log, is none; its gate is here, and is 1
pub record IsBadRecord (r : Record) (in_side : Bool) (at : ℕ) (found : Option ℕ) : Type 0 where
  pub none : IsOfEntry r.bytes → ⊥
  pub side_is : r.side ≡ in_side
  pub place : at ≡ r.at
  pub gate : found ≡ Some 1

abbrev pub RecordCause : Record → Trouble → Type 0
RecordCause r (trouble.Damaged at found) = IsBadRecord r false at found
RecordCause r (trouble.DamagedSide at found) = IsBadRecord r true at found
RecordCause r trouble.Memory = Unit {0}
RecordCause r t = ⊥

-- the first record without an entry is one of the side, or of the log
pub record HasBadRecord (records : List Record) (in_side : Bool) (at : ℕ) (found : Option ℕ) : Type 0 where
  pub first : HasNoEntry records at found
  pub side_is : first.bad.side ≡ in_side

abbrev pub RecordsCause : List Record → Trouble → Type 0
RecordsCause records (trouble.Damaged at found) = HasBadRecord records false at found
RecordsCause records (trouble.DamagedSide at found) = HasBadRecord records true at found
RecordsCause records trouble.Memory = Unit {0}
RecordsCause records t = ⊥

-- what a pair is opened to, where each of its records is of an entry
pub record IsListOf {D : Type 0} (opened : OpenedPair D) (l : Listed D) : Type 0 where
  pub pair_is : l.pair ≡ opened.pair
  pub records_are : l.records ≡ opened.records
  pub header_is : opened.header ≡ header.Room l.store
  pub long : length l.store ≡ 16
  pub list : History
  pub are : AreOf opened.records list

-- why it is none; a receiver's log is no pair
abbrev pub IsNoList : Header → List Record → Trouble → Type 0
IsNoList (header.Receiver name) records t = t ≡ trouble.WrongStore
IsNoList (header.Room store) records t = RecordsCause records t

-- ---- files

module _ {D : Type 0} (disk : DiskMeaning D) (log side : D) where
  -- the files were opened as a room, and then as the keeper of the records of its list; from then on each read and each crash gives them
  pub record IsListed (l : Listed D) : Type 0 where
    pub room : Room (Pair D)
    pub opened : IsOpenRoom disk log side room
    pub label : (pair_of disk).label l.pair ≡ l.store
    pub long : length l.store ≡ 16
    pub list : History
    pub are : AreOf l.records list
    pub few : AreFew l.records
    pub used : (pair_of disk).used l.pair ≡ 65 + length (log_bytes (payloads l.records))
    -- nothing is in doubt
    pub quiet : (pair_of disk).most_calls l.pair ≡ 4
    pub calm : (pair_of disk).faults l.pair ≡ disk.faults log + disk.faults side
    pub store_is : disk.tells log → disk.tells side → l.store ≡ opened.store
    pub list_is : disk.tells log → disk.tells side → list ≡ opened.history
    pub tells : disk.tells log → disk.tells side → (pair_of disk).tells l.pair
    pub told : disk.tells log → disk.tells side → (pair_of disk).list l.pair ≡ payloads l.records
    pub files : disk.tells log → disk.tells side → FilesHold disk (log_disk l.pair) (side_disk l.pair) opened.store opened.history
    pub crash : disk.tells log → disk.tells side
        → DiskGains disk log (log_disk l.pair) (λ c. disk.may_leave log c ⊎ ((s : List ℕ) → disk.may_leave (side_disk l.pair) s → Opens c s opened.store opened.history))
    pub still : disk.tells side → Still disk side (side_disk l.pair)
