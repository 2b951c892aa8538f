-- The members of an input that comes in pieces.
use Rattle.std.specs.Prelude.{◌≡◌, ℕ, List, ◌++◌}

-- the members that a piece adds to those that are decided, and what a function says of them
abbrev pub Adds : {X : Type 0} → (List ℕ → List X) → (List ℕ → Type 0) → List ℕ → (List X → Type 0) → Type 0
Adds {X = X} decided agrees some P = (read : List ℕ) → agrees read → (ys : List X) × (decided (read ++ some) ≡ decided read ++ ys) × P ys

-- those that the end of the input adds
abbrev pub AddsLast : {X : Type 0} → (List ℕ → List X) → (List ℕ → List X) → (List ℕ → Type 0) → (List X → Type 0) → Type 0
AddsLast {X = X} decided all agrees P = (read : List ℕ) → agrees read → (ys : List X) × (all read ≡ decided read ++ ys) × P ys

-- the members of the front come first
abbrev pub ComeFirst : {X : Type 0} → (List ℕ → List X) → (List ℕ → List X) → Type 0
ComeFirst {X = X} decided all = (p q : List ℕ) → (ys : List X) × (all (p ++ q) ≡ decided p ++ ys)
