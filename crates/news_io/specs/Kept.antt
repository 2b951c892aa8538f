-- What a keeper in memory leaves.
use Rattle.std.specs.Prelude.{◌≡◌, ◌≤◌, ℕ, List, length, take, Option, Some}
use Rattle.std.proofs.Common.{inl, ◌∙◌, ap}
use Rattle.std.proofs.lemmas.List.{take_all}
use Rattle.news_io.specs.Keeper.{Leaves}

-- a list that it had after the first t appends or later
abbrev pub kept_from : List (List ℕ) → ℕ → Option (List (List ℕ)) → Type 0
kept_from payloads t found = (n : ℕ) × (t ≤ n) × (n ≤ length payloads) × (found ≡ Some (take n payloads))

pub only_kept : (payloads : List (List ℕ)) (found : Option (List (List ℕ))) → kept_from payloads (length payloads) found → Leaves payloads (λ x. ⊥) found
only_kept payloads found left = inl (left.3 ∙ ap (λ (l : List (List ℕ)). Some l) (take_all left.0 payloads left.1))
