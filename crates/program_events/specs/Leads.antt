-- Events that lead from a world's list to another one, entry by entry.
use Rattle.std.specs.Prelude.{◌≡◌, ℕ, List, [], ◌∷◌, ◌++◌, Some}
use Rattle.std.specs.List.{slice_get}
use Rattle.news_types.specs.declared.entry.Entry.{Entry}
use Rattle.news_types.specs.History.{History}
use Rattle.news_types.specs.Calls.{Fate, IsFailed}
use Rattle.news_types.specs.Names.{Bytes}
use Rattle.news_types.specs.Frames.{Writer}
use Rattle.world_laws.specs.World.{World, Event, Claims, run}

-- the entry is one of those in doubt
abbrev pub IsOneOf : List Entry → Entry → Type 0
IsOneOf doubt e = (i : ℕ) × (slice_get doubt i ≡ Some e)

-- a stop comes at an event before its last entry is kept: at a claim behind the entry of its tick
pub data StopsAt : Event → Event → Type 0 where
  BeforeAttempt : (names : List Bytes) (reading : ℕ) (first second : Fate) → StopsAt (Claims names reading first second) (Claims names reading first IsFailed)

-- what a stop leaves of the first of these events: nothing, or what has begun of it
abbrev pub IsBegunOf : List Event → List Event → Type 0
IsBegunOf events [] = Unit {0}
IsBegunOf [] (e ∷ begun) = ⊥
IsBegunOf (whole ∷ events) (e ∷ begun) = StopsAt whole e × (begun ≡ [])

-- the first of these events, and what has begun of the next, lead to the list
pub record Front (write : Writer) (w : World) (events : List Event) (h : History) : Type 0 where
  pub front : List Event
  pub rest : List Event
  pub events_are : events ≡ front ++ rest
  pub begun : List Event
  pub is_begun : IsBegunOf rest begun
  pub list : (run write (front ++ begun) w).server.list ≡ h

-- these events lead from the world's list to this one, and the first of them to each list between
pub record Lead (write : Writer) (w : World) (events : List Event) (g : History) : Type 0 where
  pub list : (run write events w).server.list ≡ g
  pub each : (later part first : List Entry) → part ≡ first ++ w.server.list → g ≡ later ++ part → Front write w events part

-- they lead from the world's list to this one, and whatever is in doubt then is in doubt in the world
pub record LeadsOn (write : Writer) (w : World) (g : History) (D : Entry → Type 0) (events : List Event) : Type 0 where
  pub lead : Lead write w events g
  pub doubt : (e : Entry) → D e → IsOneOf (run write events w).server.doubt e
