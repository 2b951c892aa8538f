-- What taking the records of a list answers, and what opening a room from them.
use Rattle.std.specs.Prelude.{◌≡◌, ◌⊎◌, ℕ, ◌+◌, Bool, true, false, List, ◌∷◌, ◌++◌, map, slice_get, Option, Some, Result, Ok, Err}
use Rattle.news_types.specs.declared.entry.Entry.{Entry}
use Rattle.news_types.specs.Names.{Bytes}
use Rattle.news_types.specs.History.{History}
use Rattle.news_types.specs.declared.entry.Reply.{Reply}
use Rattle.news_types.specs.Legal.{IsLegal}
use Rattle.news_types.specs.Outcome.{reply_to}
use Rattle.news_io.specs.declared.record.Record.{Record}
use Rattle.byte_formats.specs.Faults.{IsFaultAt}
use Rattle.entry_codec.specs.Spelling.{entry_bytes}
use Rattle.entry_codec.specs.Formed.{IsEntry}
use Rattle.newsroom.specs.Stands.{StandsFor}
use Rattle.newsroom.specs.declared.newsroom.Newsroom.{Newsroom}
use Rattle.news_room.specs.Log.{IsStored, OpensTo}
use Rattle.news_room.specs.Stands.{Tells, Stands}
use Rattle.news_room.specs.declared.answers.RoomFault.{RoomFault}
use Rattle.news_room.specs.declared.replay.Replay.{Replay}
use Rattle.news_room.specs.declared.room.Room.{Room}
use Rattle.news_io.specs.Keeper.{KeeperMeaning}

abbrev pub bytes_of : Record → Bytes
bytes_of r = r.bytes

-- damage in a file, which is the side or the log
abbrev pub damaged_in : Bool → ℕ → Option ℕ → RoomFault
damaged_in true at found = RoomFault.DamagedSide at found
damaged_in false at found = RoomFault.Damaged at found

-- the payload is no entry: the place of the first byte that no entry goes on with, in a file whose record begins there
pub record IsNoEntry (r : Record) (at : ℕ) (found : Option ℕ) : Type 0 where
  pub place : ℕ
  pub fault : IsFaultAt entry_bytes IsEntry r.bytes place
  pub at_is : at ≡ r.at + 5 + place
  pub found_is : found ≡ slice_get r.bytes place

-- the entry may not follow the list: the place of the record's gate, which is 1
pub record IsUnlawful (h : History) (r : Record) (at : ℕ) (found : Option ℕ) : Type 0 where
  pub next : Entry
  pub is : r.bytes ≡ entry_bytes next
  pub entry : IsEntry next
  pub unlawful : IsStored (next ∷ h) → ⊥
  pub at_is : at ≡ r.at
  pub found_is : found ≡ Some 1

abbrev pub IsDamage : History → Record → ℕ → Option ℕ → Type 0
IsDamage h r at found = IsNoEntry r at found ⊎ IsUnlawful h r at found

-- the first record that is damaged is one of the side, or one of the log
pub record HasBadRecord (records : List Record) (side : Bool) (at : ℕ) (found : Option ℕ) : Type 0 where
  pub before : List Record
  pub here : Record
  pub after : List Record
  pub are : records ≡ before ++ here ∷ after
  pub list : History
  pub opens : OpensTo (map bytes_of before) list
  pub file_is : here.side ≡ side
  pub damage : IsDamage list here at found

abbrev pub IsFault : List Record → RoomFault → Type 0
IsFault records (RoomFault.Damaged at found) = HasBadRecord records false at found
IsFault records (RoomFault.DamagedSide at found) = HasBadRecord records true at found
IsFault records RoomFault.Memory = Unit {0}

-- the machine stands for the list of these records
pub record HasRead (n : Newsroom) (records : List Bytes) (h : History) : Type 0 where
  pub opens : OpensTo records h
  pub stands : StandsFor n h

-- the reply to an act that makes, changes and publishes nothing, at this place of the list
abbrev pub replies_plainly : ℕ → Reply
replies_plainly place = record { entry = place; item = 0; publication = 0; release = 0 }

-- the machine has taken one more record behind the list: it stands for the list with the record's entry, and this is the reply to that
pub record HasTaken (n : Newsroom) (h : History) (r : Record) (reply : Reply) : Type 0 where
  pub entry : Entry
  pub is : r.bytes ≡ entry_bytes entry
  pub kept : IsStored (entry ∷ h)
  pub stands : StandsFor n (entry ∷ h)
  pub reply_is : reply ≡ reply_to h entry.moment entry.act

-- what one more record is to a machine that stands for a list
abbrev pub Takes : Newsroom → History → Record → Result Reply RoomFault → Type 0
Takes n h r (Ok reply) = HasTaken n h r reply
Takes n h r (Err (RoomFault.Damaged at found)) = (r.side ≡ false) × IsDamage h r at found
Takes n h r (Err (RoomFault.DamagedSide at found)) = (r.side ≡ true) × IsDamage h r at found
Takes n h r (Err RoomFault.Memory) = Unit {0}

-- what the entry of a record is to a machine that stands for a list: the record's gate is there, where it may not follow
pub record IsRefused (h : History) (r : Record) (e : Entry) (at : ℕ) (found : Option ℕ) : Type 0 where
  pub unlawful : IsLegal (e ∷ h) → ⊥
  pub at_is : at ≡ r.at
  pub found_is : found ≡ Some 1

-- it may follow: the machine stands for the list with it, and this is the reply to it
pub record HasKept (n : Newsroom) (h : History) (e : Entry) (reply : Reply) : Type 0 where
  pub legal : IsLegal (e ∷ h)
  pub stands : StandsFor n (e ∷ h)
  pub reply_is : reply ≡ reply_to h e.moment e.act

abbrev pub Keeps : Newsroom → History → Record → Entry → Result Reply RoomFault → Type 0
Keeps n h r e (Ok reply) = HasKept n h e reply
Keeps n h r e (Err (RoomFault.Damaged at found)) = (r.side ≡ false) × IsRefused h r e at found
Keeps n h r e (Err (RoomFault.DamagedSide at found)) = (r.side ≡ true) × IsRefused h r e at found
Keeps n h r e (Err RoomFault.Memory) = Unit {0}

-- what the records are to a machine
abbrev pub Reads : List Record → Result Replay RoomFault → Type 0
Reads records (Ok replay) = (h : History) × HasRead replay.machine (map bytes_of records) h
Reads records (Err fault) = IsFault records fault

-- the room stands for the list of the records, in this store; told, where the keeper tells that list
module _ {K : Type 0} (keeper : KeeperMeaning K) where
  pub record IsOpened (k : K) (store : Bytes) (records : List Record) (r : Room K) : Type 0 where
    pub keeper_is : r.keeper ≡ k
    pub history : History
    pub opens : OpensTo (map bytes_of records) history
    pub stands : (told : Bool) → (told ≡ true → Tells keeper k store history) → Stands keeper r (record { store = store; told = told; list = history })

  abbrev pub Opened : K → Bytes → List Record → Result (Room K) (K × RoomFault) → Type 0
  Opened k store records (Ok r) = IsOpened k store records r
  Opened k store records (Err given) = (given.0 ≡ k) × IsFault records given.1
