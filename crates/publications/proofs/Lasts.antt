-- The last of an item's publications below a number.
use Rattle.std.proofs.Common.{◌≡◌, ◌==◌, ◌&&◌, ℕ, Bool, true, false, cond, List, [], ◌∷◌, ◌++◌, Some, refl, ap, ◌∙◌}
use Rattle.std.specs.Prelude.{nat_lt, reverse, unwrap_or}
use Rattle.std.specs.List.{find}
use Rattle.std.proofs.lemmas.List.{reverse-append}
use Rattle.news_types.specs.Due.{Pub}
use Rattle.news_types.specs.Answers.{last_of, number_of}
use Rattle.publications.specs.Numbers.{numbers_of, last_below}

abbrev is_below : ℕ → ℕ → Bool
is_below below n = nat_lt n below

pub last_found : (i below : ℕ) (ps : List Pub) → last_below below (numbers_of i ps) ≡ number_of (last_of i below ps)
last_found i below [] = refl
last_found i below (p ∷ ps) = by (p.item == i) (last_found i below ps)
  where
    -- the newest number stands last, and comes first from behind
    at : (b : Bool) → last_below below (numbers_of i ps) ≡ number_of (last_of i below ps)
        → unwrap_or (cond b (Some p.number) (find (is_below below) (reverse (numbers_of i ps)))) 0 ≡ number_of (cond b (Some p) (last_of i below ps))
    at true rest = refl
    at false rest = rest

    by : (b : Bool) → last_below below (numbers_of i ps) ≡ number_of (last_of i below ps)
        → last_below below (cond b (numbers_of i ps ++ p.number ∷ []) (numbers_of i ps)) ≡ number_of (cond (b && nat_lt p.number below) (Some p) (last_of i below ps))
    by true rest = ap (λ (ns : List ℕ). unwrap_or (find (is_below below) ns) 0) (reverse-append (numbers_of i ps) (p.number ∷ [])) ∙ at (nat_lt p.number below) rest
    by false rest = rest
