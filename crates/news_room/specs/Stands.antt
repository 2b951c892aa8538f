-- What a room stands for.
use Rattle.std.specs.Prelude.{◌≡◌, ℕ, ◌+◌, ◌≤◌, min, true, List, [], ◌∷◌, length, if◌then◌else◌}
use Rattle.news_types.specs.declared.entry.Entry.{Entry}
use Rattle.news_types.specs.Names.{Bytes}
use Rattle.news_types.specs.History.{History, is_stop_command}
use Rattle.news_types.specs.declared.entry.Act.{Act}
use Rattle.news_types.specs.declared.entry.Act.TheVariants.{Halt, Request}
use Rattle.news_types.specs.Books.{Book}
use Rattle.entry_codec.specs.Spelling.{entry_bytes}
use Rattle.entry_codec.specs.Formed.{IsEntry}
use Rattle.newsroom.specs.Stands.{StandsFor, store_of}
use Rattle.news_types.specs.Doubt.{payloads}
use Rattle.news_room.specs.Log.{IsStored}
use Rattle.news_room.specs.Beside.{Beside, beside}
use Rattle.news_room.specs.declared.room.Room.{Room}
use Rattle.news_io.specs.Keeper.{KeeperMeaning}

-- the bytes that requests may use, and those that a log may have
abbrev pub LIMIT : ℕ
LIMIT = 1073737728

abbrev pub LAST : ℕ
LAST = 1073741824

-- those that a stop may use: what is left above is for the record of a halt
abbrev pub STOP_LIMIT : ℕ
STOP_LIMIT = 1073741810

-- those that an act may use with its entry
abbrev pub limit_of : Act → ℕ
limit_of Halt = LAST
limit_of (Request caller number command) = if is_stop_command command then STOP_LIMIT else LIMIT
limit_of act = LIMIT

-- those that the entry that follows may use, if one does
abbrev pub limit_for : List Entry → ℕ
limit_for [] = LIMIT
limit_for (e ∷ es) = limit_of e.act

-- a payload that a crash may leave behind the list is that of an entry which may follow it
abbrev pub MayFollow : History → Bytes → Type 0
MayFollow h payload = (e : Entry) × (payload ≡ entry_bytes e) × IsStored (e ∷ h)

module _ {K : Type 0} (keeper : KeeperMeaning K) where
  -- the keeper tells its list, and that is the records of the store's list
  pub record Tells (k : K) (store : Bytes) (h : History) : Type 0 where
    pub tells_it : keeper.tells k
    pub label_is : keeper.label k ≡ store
    pub list_is : keeper.list k ≡ payloads entry_bytes h
    pub follow : (payload : Bytes) → keeper.doubts k payload → MayFollow h payload

  -- the room stands for the book; where it is told, the keeper's list is that of the book
  pub record Stands (r : Room K) (b : Book) : Type 0 where
    pub store_is : store_of r.machine ≡ b.store
    pub machine_for : StandsFor r.machine b.list
    pub kept : IsStored b.list
    pub few : length b.list ≤ 2147483648 + min (keeper.used r.keeper) LAST
    pub told : b.told ≡ true → Tells r.keeper b.store b.list

  abbrev pub SomeBook : Room K → Type 0
  SomeBook r = (b : Book) × Stands r b

-- the numbers beside a call
abbrev pub numbers : {K : Type 0} → KeeperMeaning K → Room K → Room K → Beside
numbers keeper old new = beside (keeper.faults old.keeper) (keeper.used old.keeper) (keeper.faults new.keeper) (keeper.used new.keeper)

-- the entries in doubt: those within the limits whose payload a crash may leave behind the list
abbrev pub in_doubt : {K : Type 0} → KeeperMeaning K → Room K → Entry → Type 0
in_doubt keeper r e = IsEntry e × keeper.doubts r.keeper (entry_bytes e)
