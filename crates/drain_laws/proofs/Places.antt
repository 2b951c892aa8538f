-- The links of drains, each at its place.
use Rattle.std.proofs.Common.{◌≡◌, ℕ, zero, suc, ◌<◌, List, [], ◌∷◌, length, Some, refl, sym, ap, ◌∙◌, subst, length-set, get_or-set_same, arith}
use Rattle.std.specs.Prelude.{slice_get, slice_set}
use Rattle.std.proofs.lemmas.Option.{slice_get-get_or}
use Rattle.news_types.proofs.Members.{get_within}
use Rattle.news_io.specs.Link.{LinkMeaning}
use Rattle.publish_workers.specs.LinkDrains.{LinkDrain, DrainLinks}

set_same : {A : Type 0} (xs : List A) (i : ℕ) (x : A) → i < length xs → slice_get (slice_set xs i x) i ≡ Some x
set_same xs i x lt = slice_get-get_or (slice_set xs i x) i x (subst (λ (n : ℕ). i < n) (sym (length-set xs i x)) lt) ∙ ap Some (get_or-set_same xs i x x lt)

set_other : {A : Type 0} (xs : List A) (i j : ℕ) (x : A) → j < i → slice_get (slice_set xs i x) j ≡ slice_get xs j
set_other [] i j x lt = refl
set_other (y ∷ ys) zero j x lt = absurd (omega (arith, lt))
set_other (y ∷ ys) (suc i) zero x lt = refl
set_other (y ∷ ys) (suc i) (suc j) x lt = set_other ys i j x (omega (arith, lt))

-- the lists have the same at the first n places
abbrev pub SameUpTo : {L : Type 0} → ℕ → List L → List L → Type 0
SameUpTo n xs ys = (i : ℕ) → i < n → slice_get xs i ≡ slice_get ys i

module _ {L : Type 0} (link : LinkMeaning L) where
  as_many : (old new : List L) (ds : List LinkDrain) → DrainLinks link old new ds → length new ≡ length old
  as_many old new [] drains = ap length drains
  as_many old new (d ∷ ds) drains = ap length drains.6 ∙ length-set drains.0 (length ds) drains.2 ∙ as_many old drains.0 ds drains.3

  module _ (old new last : List L) (d : LinkDrain) (ds : List LinkDrain) (drains : DrainLinks link old new (d ∷ ds)) (same : SameUpTo (length (d ∷ ds)) last new) where
    -- the newest drain's link stands at its place
    pub newest_there : slice_get last (length ds) ≡ Some drains.2
    newest_there =
        let within : length ds < length drains.0 = subst (λ (n : ℕ). length ds < n) (sym (as_many old drains.0 ds drains.3)) (get_within old (length ds) drains.1 drains.4) in
        same (length ds) (omega arith) ∙ ap (λ (l : List L). slice_get l (length ds)) drains.6 ∙ set_same drains.0 (length ds) drains.2 within

    -- and those before it as they were
    pub before_there : SameUpTo (length ds) last drains.0
    before_there i lt = same i (omega (arith, lt)) ∙ ap (λ (l : List L). slice_get l i) drains.6 ∙ set_other drains.0 (length ds) i drains.2 lt
