-- What answers the members of an input: a room, with the clock that is read for each member that the room answers.
use Rattle.std.specs.Prelude.{◌≡◌, ℕ, ◌+◌, Bool, true, false, []}
use Rattle.std.specs.Borrow.{GName, MutBor}
use Rattle.news_types.specs.Names.{Bytes}
use Rattle.news_types.specs.History.{History}
use Rattle.news_types.specs.Books.{Book}
use Rattle.news_io.specs.Keeper.{KeeperMeaning}
use Rattle.news_room.specs.Log.{sizes}
use Rattle.news_room.specs.Stands.{Stands}
use Rattle.news_room.specs.declared.room.Room.{Room}
use Rattle.room_runs.specs.declared.desk.LineDesk.{LineDesk}

-- what a desk has at hand: a room, a clock, and the provider whose stories it takes, which a desk for lines has not
pub record Hand (K C : Type 0) : Type 0 where
  pub room : MutBor (Room K)
  pub clock : MutBor C
  pub provider : Bytes

abbrev pub line_hand : {K C : Type 0} → LineDesk K C → Hand K C
line_hand d = record { room = d.room; clock = d.clock; provider = [] }

-- what stays the same from member to member: the store, whether its keeper tells the list, the bytes of the log before its first record, the provider, and which room and clock are used
pub record Shelf : Type 0 where
  pub store : Bytes
  pub told : Bool
  pub before : ℕ
  pub provider : Bytes
  pub room : GName
  pub clock : GName

abbrev pub book : Shelf → History → Book
book s h = record { store = s.store; told = s.told; list = h }

-- the desk's room stands for the list, and its keeper uses the bytes of the list's records
pub record StandsAt {K C : Type 0} (keeper : KeeperMeaning K) (s : Shelf) (d : Hand K C) (h : History) : Type 0 where
  pub room_stands : Stands keeper d.room.now (book s h)
  pub uses : keeper.used d.room.now.keeper ≡ s.before + sizes h
  pub same_provider : d.provider ≡ s.provider
  pub same_room : d.room.ghost_name ≡ s.room
  pub same_clock : d.clock.ghost_name ≡ s.clock

-- the moment of a keeper that tells its list
abbrev pub moment_of : Bool → ℕ → ℕ
moment_of true m = m
moment_of false m = 0
