-- One record more of a keeper in memory.
use Rattle.std.proofs.Common.{◌≡◌, ◌⊎◌, inl, inr, ℕ, ◌+◌, ◌≤◌, ◌<◌, List, [], ◌∷◌, ◌++◌, length, take, Option, Some, sym, ◌∙◌, ap, arith, length-append}
use Rattle.std.proofs.lemmas.List.{take-append-le, take_all}
use Rattle.std.proofs.lemmas.Bool.{cases_lt}
use Rattle.news_io.specs.Keeper.{BeforeOrAfter}
use Rattle.news_io.specs.Kept.{kept_from}
use Rattle.news_io.specs.Moments.{Elapses}

module _ (old new : List (List ℕ)) (payload : List ℕ) (is : new ≡ old ++ payload ∷ []) (doubts doubts' : List ℕ → Type 0) where
  size : length new ≡ length old + 1
  size = ap length is ∙ length-append old (payload ∷ [])

  front : (n : ℕ) → n ≤ length old → take n new ≡ take n old
  front n le = ap (λ (l : List (List ℕ)). take n l) is ∙ take-append-le n old (payload ∷ []) le

  pub kept_more : Elapses (length old) (length new) (λ t found. kept_from old t found) (λ t found. kept_from new t found) (λ found. BeforeOrAfter old doubts new doubts' found)
  kept_more = record {
    later = omega (arith, size);
    nothing_else = λ t found le left. by_count t found left (cases_lt (length old) left.0);
    keeps = λ t found le left. (left.0, left.1, omega (arith, left.2, size), left.3 ∙ ap (λ (l : List (List ℕ)). Some l) (sym (front left.0 left.2)));
  }
    where
      by_count : (t : ℕ) (found : Option (List (List ℕ))) (left : kept_from new t found) → (length old < left.0) ⊎ (left.0 ≤ length old) → kept_from old t found ⊎ BeforeOrAfter old doubts new doubts' found
      by_count t found left (inr before) = inl (left.0, left.1, before, left.3 ∙ ap (λ (l : List (List ℕ)). Some l) (front left.0 before))
      by_count t found left (inl after) = inr (inr (inl (left.3 ∙ ap (λ (l : List (List ℕ)). Some l) (take_all left.0 new (omega (arith, size, after))))))
