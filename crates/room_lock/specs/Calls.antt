-- Calls in order, calls that overlap nowhere, and two lists of calls or of entries put together.
use Rattle.std.specs.Prelude.{ℕ, ◌≤◌, ◌⊎◌, List, [], ◌∷◌, length, cond, nat_lt, All}
use Rattle.news_types.specs.declared.entry.Entry.{Entry}
use Rattle.room_lock.specs.declared.view.Call.{Call}

-- the calls come one after another, the first from a on, and the last has ended by b
abbrev pub InOrder : ℕ → List Call → ℕ → Type 0
InOrder a [] b = a ≤ b
InOrder a (c ∷ cs) b = (a ≤ c.from) × (c.from ≤ c.to) × InOrder c.to cs b

-- one of the two has ended where the other begins
abbrev pub Clear : Call → Call → Type 0
Clear c d = (c.to ≤ d.from) ⊎ (d.to ≤ c.from)

-- no call of the one list overlaps with a call of the other
abbrev pub AllClear : List Call → List Call → Type 0
AllClear cs ds = All (λ c. All (λ d. Clear c d) ds) cs

-- with d before the first call that has not ended where d begins
abbrev pub placed : Call → List Call → List Call
placed d [] = d ∷ []
placed d (c ∷ cs) = cond (nat_lt d.from c.to) (d ∷ c ∷ cs) (c ∷ placed d cs)

-- the calls of both lists, in order
abbrev pub merged : List Call → List Call → List Call
merged cs [] = cs
merged cs (d ∷ ds) = merged (placed d cs) ds

-- the one that has more entries, and the first where they have as many
abbrev pub longer : List Entry → List Entry → List Entry
longer xs ys = cond (nat_lt (length xs) (length ys)) ys xs
