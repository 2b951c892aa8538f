-- The order in which feeds may be pushed.
use Rattle.std.specs.Prelude.{◌≡◌, ℕ, ◌+◌, Bool, true, false, not, ◌&&◌, ◌||◌, ◌==◌, List, length, Option, Some, None}
use Rattle.std.specs.List.{list_any}
use Rattle.std.specs.List.Sorted.{IsStrictlySortedBy}
use Rattle.std.specs.declared.cmp.Ordering.{Ordering}
use Rattle.std.specs.Ordering.{nat_cmp, ordering_then}
use Rattle.std.specs.Cmp.Lexicographic.{slice_cmp}
use Rattle.news_types.specs.Names.{Bytes, same}
use Rattle.publish_queue.specs.declared.turns.Turn.{Turn}
use Rattle.publish_queue.specs.declared.turns.Turns.{Turns}

-- by the moment, and then by the name
abbrev pub by_turn : Turn → Turn → Ordering
by_turn a b = ordering_then (nat_cmp a.moment b.moment) (slice_cmp nat_cmp a.name b.name)

abbrev pub same_turn : Turn → Turn → Bool
same_turn a b = a.moment == b.moment && same a.name b.name

abbrev pub has : Turn → List Turn → Bool
has c turns = list_any (same_turn c) turns

abbrev pub is_at : ℕ → Option ℕ → Bool
is_at m None = false
is_at m (Some n) = m == n

abbrev pub one : Option ℕ → ℕ
one None = 0
one (Some n) = 1

-- the turns are those of a function from names
pub record HoldsTurns (turns : Turns) (turn_of : Bytes → Option ℕ) : Type 0 where
  pub ascends : IsStrictlySortedBy by_turn turns.turns.items
  pub member : (c : Turn) → has c turns.turns.items ≡ is_at c.moment (turn_of c.name)

-- the same turns without one
pub record IsWithout (turn : Turn) (olds news : List Turn) : Type 0 where
  pub ascends : IsStrictlySortedBy by_turn news
  pub member : (c : Turn) → has c news ≡ (has c olds && not (same_turn c turn))
  pub long : has turn olds ≡ true → length news + 1 ≡ length olds

-- the same turns with one more
pub record IsWith (turn : Turn) (olds news : List Turn) : Type 0 where
  pub ascends : IsStrictlySortedBy by_turn news
  pub member : (c : Turn) → has c news ≡ (same_turn c turn || has c olds)
  pub long : length news ≡ length olds + 1
