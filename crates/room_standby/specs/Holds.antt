-- What a standby stands for.
use Rattle.std.specs.Prelude.{◌≡◌, ◌≤◌, ◌<◌, ◌+◌, ℕ, min, Bool, true, List, ◌∷◌, ◌++◌, length, map, All, Option, Some, Result, Ok, Err}
use Rattle.news_types.specs.declared.entry.Entry.{Entry}
use Rattle.news_types.specs.Names.{Bytes}
use Rattle.news_types.specs.History.{History}
use Rattle.news_types.specs.Members.{Each}
use Rattle.news_types.specs.Server.{Server}
use Rattle.news_types.specs.Doubt.{IsWithin, payloads}
use Rattle.news_io.specs.declared.record.Record.{Record}
use Rattle.news_io.specs.Keeper.{KeeperMeaning}
use Rattle.entry_codec.specs.Spelling.{entry_bytes}
use Rattle.entry_codec.specs.Formed.{IsEntry}
use Rattle.room_standby.specs.declared.standby.Standby.{Standby}
use Rattle.room_standby.specs.declared.standby.StandbyFault.{StandbyFault}
use Rattle.room_standby.specs.declared.standby.StandbyFault.TheVariants.{Damaged, Memory}

abbrev pub bytes_of : Record → Bytes
bytes_of r = r.bytes

-- the records are those of this list, each of them an entry within the limits
pub record AreOf (records : List Record) (h : History) : Type 0 where
  pub are : map bytes_of records ≡ payloads entry_bytes h
  pub entries : Each IsEntry h

-- whether the keeper tells the list, and the list with its doubt, as the events have them
pub record Followed : Type 0 where
  pub told : Bool
  pub standby : Server

abbrev pub IsPlace : Record → Type 0
IsPlace r = r.at < 4294967296

module _ {K : Type 0} (keeper : KeeperMeaning K) where
  -- the keeper tells this list, and each payload in doubt is that of an entry in doubt
  pub record Keeps (k : K) (s : Server) : Type 0 where
    pub told : keeper.tells k
    pub is : keeper.list k ≡ payloads entry_bytes s.list
    pub doubts : IsWithin entry_bytes (keeper.doubts k) s.doubt

  pub record Holds (r : Standby K) (b : Followed) : Type 0 where
    pub records : AreOf r.records.items b.standby.list
    pub doubtful : Each IsEntry b.standby.doubt
    pub places : All IsPlace r.records.items
    pub few : length r.records.items ≤ 1073741823 + min (keeper.used r.keeper) 1073741824
    pub kept : b.told ≡ true → Keeps r.keeper b.standby

  -- what it is opened to: the list of the records, and where the keeper tells, that is its list
  pub record OpensTo (k : K) (records : List Record) (r : Standby K) : Type 0 where
    pub same : r.keeper ≡ k
    pub list : History
    pub are : AreOf records list
    pub holds : (told : Bool) (doubt : History) → Each IsEntry doubt
        → (told ≡ true → Keeps k (record { list = list; doubt = doubt }))
        → Holds r (record { told = told; standby = record { list = list; doubt = doubt } })

-- the payload is that of an entry within the limits
abbrev pub IsOfEntry : Bytes → Type 0
IsOfEntry payload = (e : Entry) × IsEntry e × (payload ≡ entry_bytes e)

-- the first record whose payload is no entry begins here, and its gate is 1
pub record HasNoEntry (records : List Record) (at : ℕ) (found : Option ℕ) : Type 0 where
  pub front : List Record
  pub bad : Record
  pub rest : List Record
  pub is : records ≡ front ++ bad ∷ rest
  pub list : History
  pub before : AreOf front list
  pub here : IsOfEntry bad.bytes → ⊥
  pub place : at ≡ bad.at
  pub gate : found ≡ Some 1

abbrev pub IsFault : List Record → StandbyFault → Type 0
IsFault records (Damaged at found) = HasNoEntry records at found
IsFault records Memory = Unit {0}

-- the keeper is given back with the fault
abbrev pub GivesBack : {K : Type 0} → K → List Record → K × StandbyFault → Type 0
GivesBack k records back = (back.0 ≡ k) × IsFault records back.1

-- whether a record is of an entry, or memory was wanting
abbrev pub IsEntryRecord : Record → Result (Unit {0}) StandbyFault → Type 0
IsEntryRecord r (Ok u) = IsOfEntry r.bytes
IsEntryRecord r (Err (Damaged at found)) = (IsOfEntry r.bytes → ⊥) × (at ≡ r.at) × (found ≡ Some 1)
IsEntryRecord r (Err Memory) = Unit {0}
