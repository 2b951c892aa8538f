-- What a standby is promoted to.
use Rattle.std.specs.Prelude.{◌≡◌, Bool, true, List, ◌∷◌, Result, Ok, Err}
use Rattle.news_types.specs.Names.{Bytes}
use Rattle.news_types.specs.History.{History}
use Rattle.news_types.specs.Legal.{IsLegal}
use Rattle.news_types.specs.Members.{Each}
use Rattle.news_io.specs.Keeper.{KeeperMeaning}
use Rattle.news_room.specs.Stands.{Stands}
use Rattle.news_room.specs.declared.answers.RoomFault.{RoomFault}
use Rattle.news_room.specs.declared.room.Room.{Room}
use Rattle.standby_laws.specs.Following.{Event, MayAll, opening, happens, after}
use Rattle.room_standby.specs.Holds.{Followed}
use Rattle.room_standby.specs.declared.standby.Standby.{Standby}

module _ {K : Type 0} (keeper : KeeperMeaning K) where
  -- the keeper is that of the store, and each entry in doubt may follow the list
  pub record MayTell (store : Bytes) (s : Standby K) (b : Followed) : Type 0 where
    pub label : keeper.label s.keeper ≡ store
    pub follow : Each (λ e. IsLegal (e ∷ b.standby.list)) b.standby.doubt

  -- a room that stands for the list, or want of memory
  abbrev pub Promoted : Bytes → Standby K → Followed → Result (Room K) (K × RoomFault) → Type 0
  Promoted store s b (Ok r) =
      (b.told ≡ true → MayTell store s b)
      → Stands keeper r (record { store = store; told = b.told; list = b.standby.list })
  Promoted store s b (Err given) = (given.0 ≡ s.keeper) × (given.1 ≡ RoomFault.Memory)

  -- The same of a standby that followed a primary: its list and its doubt are those behind some events. Of its keeper
  -- only the store has to be right.
  abbrev pub IsOfStore : Bytes → Standby K → Bool → History → Result (Room K) (K × RoomFault) → Type 0
  IsOfStore store s told list (Ok r) =
      (told ≡ true → keeper.label s.keeper ≡ store)
      → Stands keeper r (record { store = store; told = told; list = list })
  IsOfStore store s told list (Err given) = (given.0 ≡ s.keeper) × (given.1 ≡ RoomFault.Memory)

  abbrev pub FollowerPromoted : Bytes → Standby K → Followed → Result (Room K) (K × RoomFault) → Type 0
  FollowerPromoted store s b result =
      (events : List Event) → MayAll happens events opening → (after happens events).standby ≡ b.standby
      → IsOfStore store s b.told (after happens events).standby.list result
