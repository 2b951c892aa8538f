-- Releases in order, and what goes from there into a row.
use Rattle.std.specs.Prelude.{◌≡◌, ℕ, ◌-◌, ◌/◌, ◌%◌, ◌≤◌, ◌<◌, Bool, false, List, [], ◌∷◌, ◌++◌, length, slice_index_or, nat_le, nat_lt, not, ◌&&◌, ◌==◌, if◌then◌else◌, Option, Some, None}
use native.Mathlib.Bridge.{le_prop}
use Rattle.std.specs.List.{filter, list_any}
use Rattle.publish_queue.specs.declared.release.Release.{Release}
use Rattle.publish_queue.specs.declared.release.Awaited.{Awaited}

-- ---- a place of one that waits

-- a place is one word: the moment, above 26 bits of number
unfoldable pub awaited_moment : Awaited → ℕ
awaited_moment w = w.bits / 67108864

unfoldable pub awaited_number : Awaited → ℕ
awaited_number w = w.bits % 67108864

-- a number of 0 says that it was withdrawn
unfoldable pub withdrawn : Awaited → Bool
withdrawn w = (w.bits % 67108864) == 0

-- withdrawn, at the same moment
unfoldable pub emptied : Awaited → Awaited
emptied w = record { bits = w.bits - w.bits % 67108864 }

-- ---- those that were not withdrawn

abbrev pub release_in : Awaited → Release
release_in w = record { moment = awaited_moment w; number = awaited_number w }

-- the releases that wait
abbrev pub live : List Awaited → List Release
live [] = []
live (w ∷ ws) = if withdrawn w then live ws else release_in w ∷ live ws

abbrev pub begins_withdrawn : List Awaited → Bool
begins_withdrawn [] = false
begins_withdrawn (w ∷ ws) = withdrawn w

-- none of them is earlier
abbrev pub NoneBefore : ℕ → List Awaited → Type 0
NoneBefore m [] = Unit {0}
NoneBefore m (w ∷ ws) = (m ≤ awaited_moment w) × NoneBefore m ws

-- the moments never fall
abbrev pub Rising : List Awaited → Type 0
Rising [] = Unit {0}
Rising (w ∷ ws) = NoneBefore (awaited_moment w) ws × Rising ws

-- a list is in order in one way
none_before_prop : (m : ℕ) (ws : List Awaited) → IsProp (NoneBefore m ws)
none_before_prop m [] a b = λ i. tt
none_before_prop m (w ∷ ws) a b = λ i. (le_prop a.0 b.0 i, none_before_prop m ws a.1 b.1 i)

pub rising_prop : (ws : List Awaited) → IsProp (Rising ws)
rising_prop [] a b = λ i. tt
rising_prop (w ∷ ws) a b = λ i. (none_before_prop (awaited_moment w) ws a.0 b.0 i, rising_prop ws a.1 b.1 i)

-- ---- releases

-- behind those that come no later
abbrev pub placed : Release → List Release → List Release
placed r [] = r ∷ []
placed r (q ∷ qs) = if nat_lt r.moment q.moment then r ∷ q ∷ qs else q ∷ placed r qs

abbrev pub number_in : Release → ℕ
number_in r = r.number

abbrev pub moment_in : Release → ℕ
moment_in r = r.moment

-- what was there, and behind it something of each that is released at the moment
abbrev pub moved : (Release → ℕ) → ℕ → List ℕ → List Release → List ℕ
moved of m row [] = row
moved of m row (r ∷ rs) = if nat_le r.moment m then moved of m (row ++ of r ∷ []) rs else row

-- those that still wait at the moment
abbrev pub left : ℕ → List Release → List Release
left m [] = []
left m (r ∷ rs) = if nat_le r.moment m then left m rs else r ∷ rs

-- it is one of these numbers
abbrev pub is_among : ℕ → List ℕ → Bool
is_among n numbers = list_any (λ k. n == k) numbers

-- it has one of these numbers
abbrev pub has_number : List ℕ → Release → Bool
has_number numbers r = is_among r.number numbers

-- and it comes between these moments, or at one of them
abbrev pub is_between : List ℕ → ℕ → ℕ → Release → Bool
is_between numbers first last r = is_among r.number numbers && (nat_le first r.moment && nat_le r.moment last)

-- without those that pass the test
abbrev pub without : (Release → Bool) → List Release → List Release
without gone rs = filter (λ (r : Release). not (gone r)) rs

-- withdrawn, if it has one of these numbers
abbrev pub marked : List ℕ → Awaited → Awaited
marked numbers w = if is_among (awaited_number w) numbers then emptied w else w

-- those from one place up to another are marked, and the others are as they were
pub record IsMarked (numbers : List ℕ) (from to : ℕ) (olds news : List Awaited) : Type 0 where
  pub long : length news ≡ length olds
  pub before : (k : ℕ) (d : Awaited) → k < from → slice_index_or news k d ≡ slice_index_or olds k d
  pub within : (k : ℕ) (d : Awaited) → k < length olds → from ≤ k → k < to → slice_index_or news k d ≡ marked numbers (slice_index_or olds k d)
  pub behind : (k : ℕ) (d : Awaited) → to ≤ k → from ≤ k → slice_index_or news k d ≡ slice_index_or olds k d

-- the moment of the first
abbrev pub next_in : List Release → Option ℕ
next_in [] = None
next_in (r ∷ rs) = Some r.moment

-- nothing is released at the moment
abbrev pub FirstIsLater : ℕ → List Release → Type 0
FirstIsLater m [] = Unit {0}
FirstIsLater m (r ∷ rs) = m < r.moment
