-- Publications that are among others.
use Rattle.std.proofs.Common.{◌≡◌, ℕ, zero, suc, ◌⊎◌, inl, inr, Bool, true, false, cond, Some, List, [], ◌∷◌, refl, sym, ap, ◌∙◌}
use Rattle.std.specs.Prelude.{slice_get}
use Rattle.std.specs.List.{filter}
use Rattle.news_types.specs.Due.{Pub, left_behind, taken_back}
use Rattle.news_types.specs.Members.{Each}
use Rattle.news_types.proofs.Members.{some_is, none_some, each_get}

-- the publication is one of these
abbrev pub IsThere : Pub → List Pub → Type 0
IsThere q ps = (k : ℕ) × (slice_get ps k ≡ Some q)

pub there_cons : (x q : Pub) (ps : List Pub) → IsThere x (q ∷ ps) → (x ≡ q) ⊎ IsThere x ps
there_cons x q ps there = by there.0 there.1
  where
    by : (k : ℕ) → slice_get (q ∷ ps) k ≡ Some x → (x ≡ q) ⊎ IsThere x ps
    by zero is = inl (sym (some_is q x is))
    by (suc k) is = inr (k, is)

pub there_more : (x q : Pub) (ps : List Pub) → IsThere x ps → IsThere x (q ∷ ps)
there_more x q ps there = (suc there.0, there.1)

pub there_get : (P : Pub → Type 0) (ps : List Pub) (x : Pub) → Each P ps → IsThere x ps → P x
there_get P ps x all there = each_get P ps there.0 x all there.1

-- one of those that are left of a list is what is left of one
pub there_left : (m i : ℕ) (x : Pub) (ps : List Pub) → IsThere x (taken_back m i ps) → (y : Pub) × IsThere y ps × (x ≡ left_behind m i y)
there_left m i x ps there = by ps there.0 there.1
  where
    by : (l : List Pub) (k : ℕ) → slice_get (taken_back m i l) k ≡ Some x → (y : Pub) × IsThere y l × (x ≡ left_behind m i y)
    by [] k is = absurd (none_some x is)
    by (y ∷ l) zero is = (y, (0, refl), sym (some_is (left_behind m i y) x is))
    by (y ∷ l) (suc k) is = let rest = by l k is in (rest.0, (suc rest.1.0, rest.1.1), rest.2)

pub left_there : (m i : ℕ) (y : Pub) (ps : List Pub) → IsThere y ps → IsThere (left_behind m i y) (taken_back m i ps)
left_there m i y ps there = by ps there.0 there.1
  where
    by : (l : List Pub) (k : ℕ) → slice_get l k ≡ Some y → IsThere (left_behind m i y) (taken_back m i l)
    by [] k is = absurd (none_some y is)
    by (z ∷ l) zero is = (0, ap (λ (u : Pub). Some (left_behind m i u)) (some_is z y is))
    by (z ∷ l) (suc k) is = let rest = by l k is in (suc rest.0, rest.1)

pub filter_there : (t : Pub → Bool) (x : Pub) (ps : List Pub) → IsThere x (filter t ps) → IsThere x ps
filter_there t x ps there = by ps there.0 there.1
  where
    by : (l : List Pub) (k : ℕ) → slice_get (filter t l) k ≡ Some x → IsThere x l
    by [] k is = absurd (none_some x is)
    by (y ∷ l) k is =
        elim (t y) as (λ b. slice_get (cond b (y ∷ filter t l) (filter t l)) k ≡ Some x → IsThere x (y ∷ l)) [
          | true ↦ λ e. elim (there_cons x y (filter t l) (k, e)) [
            | inl same ↦ (0, ap Some (sym same))
            | inr rest ↦ there_more x y l (by l rest.0 rest.1)
          ]
          | false ↦ λ e. there_more x y l (by l k e)
        ] is

pub there_filter : (t : Pub → Bool) (x : Pub) (ps : List Pub) → IsThere x ps → t x ≡ true → IsThere x (filter t ps)
there_filter t x ps there passes = by ps there.0 there.1
  where
    by : (l : List Pub) (k : ℕ) → slice_get l k ≡ Some x → IsThere x (filter t l)
    by [] k is = absurd (none_some x is)
    by (y ∷ l) zero is = let yes : t y ≡ true = ap t (some_is y x is) ∙ passes in rw yes (0, is)
    by (y ∷ l) (suc k) is =
        let rest = by l k is in
        elim (t y) as (λ b. IsThere x (cond b (y ∷ filter t l) (filter t l))) [ true ↦ there_more x y (filter t l) rest | false ↦ rest ]
