-- The rule of the lock, and what each move tells.
-- Word 0 is the next ticket, word 1 the ticket that is served, and word 2 the number of entries since the lock was made. The slot has the value.
use Rattle.std.specs.Prelude.{◌≡◌, ◌≢◌, ℕ, ◌<◌, ◌≤◌, List, [], ◌∷◌, length, Option, Some}
use mathlib.Core.Option.{Option as Maybe, some}
use mathlib.Core.List.{IsPrefix}
use lib.ListN.{get_elem?}
use Rattle.atomic_table.specs.Table.{State, Me, Step, rest}
use Rattle.news_types.specs.declared.entry.Entry.{Entry}
use Rattle.news_types.specs.Books.{Book, onto}
use Rattle.room_lock.specs.declared.view.Meeting.{Meeting}
use Rattle.room_lock.specs.declared.view.View.{View}
use Rattle.room_lock.specs.Calls.{InOrder, AllClear, longer}
use Rattle.room_lock.specs.Views.{rank, waiting, turning, counted, resting}

-- the value stands for each book for which it stood when the lock was made, with these entries more. There is such a book
pub record Since {T : Type 0} (stands : T → Book → Type 0) (start : Book → Type 0) (room : T) (more : List Entry) : Type 0 where
  pub all : (b : Book) → start b → stands room (onto more b)
  pub witness : (b : Book) × start b

-- both fronts begin the longer one, and the calls overlap nowhere
pub record Knows (m : Meeting) : Type 0 where
  pub one : IsPrefix m.one (longer m.one m.other)
  pub other : IsPrefix m.other (longer m.one m.other)
  pub clear : AllClear m.one_calls m.other_calls

-- what a view must be where this is the history, the next ticket and the ticket that is served
pub record Fits (history : List Entry) (next served : ℕ) (v : View) : Type 0 where
  pub begins : IsPrefix v.front history
  pub order : InOrder 0 v.calls (length v.front)
  pub waits : 0 < rank v.stage → (served ≤ v.ticket) × (v.ticket < next)
  pub turn : 1 < rank v.stage → (v.ticket ≡ served) × (v.front ≡ history)
  pub knows : Knows v.met

-- what two views must be to each other
pub record Apart (v w : View) : Type 0 where
  pub tickets : 0 < rank v.stage → 0 < rank w.stage → v.ticket ≢ w.ticket
  pub clear : AllClear v.calls w.calls

-- a seat's view and the slots that it holds
abbrev pub Sat : Type 0 → Type 0
Sat T = Me (Option T) View

module _ {T : Type 0} where
  -- draw: the number found is the ticket, where it was still the next one
  abbrev pub drew : Step (Option T) → Sat T → ℕ → Sat T → Type 0
  drew st m found n = (found ≡ st.first → n ≡ (waiting m.0 found, m.1)) × (found ≢ st.first → n ≡ m)

  -- count: the history is now one of which `holds` holds
  abbrev pub counted_in : (List Entry → Type 0) → ℕ × ℕ → ℕ × ℕ → Step (Option T) → Sat T → ℕ → Sat T → Type 0
  counted_in holds before after st m found n = (h : List Entry) × holds h × (n ≡ (counted m.0 h before after, m.1)) × InOrder 0 n.0.calls (length h)

  -- pass on
  abbrev pub passed : Step (Option T) → Sat T → ℕ → Sat T → Type 0
  passed st m found n = n ≡ (resting m.0, rest m.1)

  -- the second look of a join
  abbrev pub recalled : Step (Option T) → Sat T → ℕ → Sat T → Type 0
  recalled st m found n = (n ≡ m) × Knows m.0.met × InOrder 0 m.0.calls (length m.0.front)

module _ {T : Type 0} (stands : T → List Entry → Type 0) where
  -- look: where the number found is the ticket, the value is this seat's to take, and it stands for the history
  abbrev pub looked : Step (Option T) → Sat T → ℕ → Sat T → Type 0
  looked st m found n =
      (found ≡ m.0.ticket → (room : T) × (h : List Entry) × (n ≡ (turning m.0 h, (0, Some room) ∷ m.1)) × stands room h × IsPrefix m.0.front h)
      × (found ≢ m.0.ticket → n ≡ m)

  -- the value lies in the slot and stands for the history
  abbrev pub IsHome : List Entry → List (Maybe (Option T)) → Type 0
  IsHome history homes = (room : T) × (get_elem? homes 0 ≡ some (some (Some room))) × stands room history

  -- There is one history. Each pass has seen a beginning of it, no two have one ticket, and no two calls overlap. Where no pass has its turn, the value is in the slot
  pub record Kept (s : State (Option T) View) : Type 0 where
    pub history : List Entry
    pub next : ℕ
    pub served : ℕ
    pub words : s.words ≡ next ∷ served ∷ length history ∷ []
    pub queue : served ≤ next
    pub small : next < 18446744073709551616
    pub home : ((j : ℕ) (v : View) → get_elem? s.views j ≡ some v → rank v.stage < 2) → IsHome history s.homes
    pub each : (j : ℕ) (v : View) → get_elem? s.views j ≡ some v → Fits history next served v
    pub pairs : (i j : ℕ) (v w : View) → get_elem? s.views i ≡ some v → get_elem? s.views j ≡ some w → i ≢ j → Apart v w
