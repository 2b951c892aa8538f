-- To withdraw an item's first publication is to take away the one of its number.
use Rattle.std.proofs.Common.{◌≡◌, ◌==◌, ℕ, ◌<◌, ◌≤◌, Bool, true, false, cond, not, Option, Some, None, List, [], ◌∷◌, length, refl, sym, ap, ◌∙◌, subst, arith}
use Rattle.std.specs.List.{filter}
use Rattle.std.proofs.lemmas.Bool.Decides.{nat_tests}
use Rattle.news_types.specs.History.{History}
use Rattle.news_types.specs.Due.{Pub, is_first_of, standing_first, withdrawn}
use Rattle.news_types.specs.Items.{Item}
use Rattle.news_types.specs.Publications.{item, standing}
use Rattle.news_types.specs.Legal.{IsLegal}
use Rattle.news_types.specs.Members.{Each}
use Rattle.news_types.proofs.Members.{some_is, none_some}
use Rattle.news_types.proofs.Firsts.{Fit, firsts}
use Rattle.news_types.proofs.Legal.{fits_of}
use Rattle.news_types.proofs.Numbering.{Falls, standing_falls}

-- without the publication of that number
abbrev pub without : ℕ → List Pub → List Pub
without n ps = filter (λ (p : Pub). not (p.number == n)) ps

no_firsts : (i : ℕ) (ps : List Pub) → firsts i ps ≡ [] → withdrawn i ps ≡ ps
no_firsts i [] none = refl
no_firsts i (p ∷ ps) none = by (is_first_of i p) none (no_firsts i ps)
  where
    by : (b : Bool) → cond b (p ∷ firsts i ps) (firsts i ps) ≡ [] → (firsts i ps ≡ [] → withdrawn i ps ≡ ps) → cond (not b) (p ∷ withdrawn i ps) (withdrawn i ps) ≡ p ∷ ps
    by true none rest = cc
    by false none rest = ap (λ l. p ∷ l) (rest none)

-- a number that none of them has
pub without_none : (n : ℕ) (ps : List Pub) → Each (λ (p : Pub). p.number < n) ps → without n ps ≡ ps
without_none n [] all = refl
without_none n (p ∷ ps) all = let other : (p.number == n) ≡ false = grind (arith, nat_tests, all.0) in rw other (ap (λ l. p ∷ l) (without_none n ps all.1))

first_is : (P : Pub → Type 0) (i : ℕ) (ps : List Pub) (p : Pub) → Each P ps → standing_first i ps ≡ Some p → P p
first_is P i [] p all found = absurd (none_some p found)
first_is P i (q ∷ ps) p all found = by (is_first_of i q) found (first_is P i ps p all.1)
  where
    by : (b : Bool) → cond b (Some q) (standing_first i ps) ≡ Some p → (standing_first i ps ≡ Some p → P p) → P p
    by true found rest = subst P (some_is q p found) all.0
    by false found rest = rest found

too_few : (p : Pub) (fs : List Pub) → length (p ∷ fs) ≤ 1 → fs ≡ []
too_few p [] one = refl
too_few p (q ∷ fs) one = absurd (two one)
  where
    two : length (p ∷ q ∷ fs) ≤ 1 → ⊥
    two one = omega (arith, one)

number_eq : (q : Pub) → (q.number == q.number) ≡ true
number_eq q = grind (arith, nat_tests)

-- where the numbers fall, and one first publication of the item stands at most
pub withdrawn_without : (i : ℕ) (ps : List Pub) (p : Pub) → Falls ps → length (firsts i ps) ≤ 1 → standing_first i ps ≡ Some p → withdrawn i ps ≡ without p.number ps
withdrawn_without i [] p falls one found = refl
withdrawn_without i (q ∷ ps) p falls one found = by (is_first_of i q) refl one found (withdrawn_without i ps p falls.1)
  where
    by : (b : Bool) → is_first_of i q ≡ b → length (cond b (q ∷ firsts i ps) (firsts i ps)) ≤ 1 → cond b (Some q) (standing_first i ps) ≡ Some p
        → (length (firsts i ps) ≤ 1 → standing_first i ps ≡ Some p → withdrawn i ps ≡ without p.number ps)
        → cond (not b) (q ∷ withdrawn i ps) (withdrawn i ps) ≡ without p.number (q ∷ ps)
    by true e one found rest =
        let is : q ≡ p = some_is q p found in
        subst (λ (x : Pub). withdrawn i ps ≡ without x.number (q ∷ ps)) is
        (rw (number_eq q) (no_firsts i ps (too_few q (firsts i ps) one) ∙ sym (without_none q.number ps falls.0)))
    by false e one found rest =
        let lower : p.number < q.number = first_is (λ (x : Pub). x.number < q.number) i ps p falls.0 found in
        let other : (q.number == p.number) ≡ false = grind (arith, nat_tests, lower) in
        rw other (ap (λ l. q ∷ l) (rest one found))

none_found : (i : ℕ) (ps : List Pub) → standing_first i ps ≡ None → withdrawn i ps ≡ ps
none_found i [] found = refl
none_found i (q ∷ ps) found = by (is_first_of i q) found (none_found i ps)
  where
    by : (b : Bool) → cond b (Some q) (standing_first i ps) ≡ None → (standing_first i ps ≡ None → withdrawn i ps ≡ ps) → cond (not b) (q ∷ withdrawn i ps) (withdrawn i ps) ≡ q ∷ ps
    by true found rest = absurd (none_some q (sym found))
    by false found rest = ap (λ l. q ∷ l) (rest found)

few_of : (fs : List Pub) (o : Option Item) → Fit fs o → length fs ≤ 1
few_of fs None fit = rw fit (omega arith)
few_of fs (Some it) fit = fit.0

-- one first publication of an item stands at most
pub firsts_few : (h : History) (i : ℕ) → IsLegal h → length (firsts i (standing h)) ≤ 1
firsts_few h i legal = few_of (firsts i (standing h)) (item h i) (fits_of h legal i)

-- a descheduling takes away the number of the item's first publication
pub withdrawn_number : (h : History) (i : ℕ) (p : Pub) → IsLegal h → standing_first i (standing h) ≡ Some p → withdrawn i (standing h) ≡ without p.number (standing h)
withdrawn_number h i p legal found = withdrawn_without i (standing h) p (standing_falls h) (firsts_few h i legal) found

-- where none stands nothing is taken away
pub withdrawn_nothing : (h : History) (i : ℕ) → standing_first i (standing h) ≡ None → withdrawn i (standing h) ≡ standing h
withdrawn_nothing h i found = none_found i (standing h) found
