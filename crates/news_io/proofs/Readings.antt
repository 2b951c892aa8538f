-- How readings of a clock go on.
use Rattle.std.proofs.Common.{◌≡◌, ℕ, ◌+◌, List, [], ◌∷◌, ◌++◌, ◌∙◌}
use Rattle.news_io.specs.Clock.{Gave}

gave_from : (s m : ℕ → ℕ) (xs : List ℕ) (later : ℕ → ℕ) → ((k : ℕ) → m k ≡ s k) → Gave m xs later → Gave s xs later
gave_from s m [] later same g = λ k. g k ∙ same k
gave_from s m (x ∷ xs) later same g = (g.0 ∙ same 0, gave_from (λ k. s (k + 1)) (λ k. m (k + 1)) xs later (λ k. same (k + 1)) g.1)

-- some readings, and then more
pub gave_then : (s : ℕ → ℕ) (xs : List ℕ) (m : ℕ → ℕ) (ys : List ℕ) (later : ℕ → ℕ) → Gave s xs m → Gave m ys later → Gave s (xs ++ ys) later
gave_then s [] m ys later a b = gave_from s m ys later a b
gave_then s (x ∷ xs) m ys later a b = (a.0, gave_then (λ k. s (k + 1)) xs m ys later a.1 b)
