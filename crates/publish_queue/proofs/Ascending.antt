-- Lists in a total order, and where a binary search finds a member.
use Rattle.std.proofs.Common.{◌≡◌, ℕ, zero, suc, ◌+◌, ◌<◌, ◌≤◌, Bool, true, false, not, ◌&&◌, ◌||◌, List, [], ◌∷◌, length, get_or, Result, Ok, Err, MatchOption, refl, sym, ap, ◌∙◌, arith, ◌⊎◌, inl, inr}
use mathlib.Core.Bool.{true≢false}
use Rattle.std.proofs.lemmas.Bool.{cases_lt}
use Rattle.std.specs.declared.cmp.Ordering.{Ordering}
use Rattle.std.specs.declared.cmp.Ordering.TheVariants.{Less, Equal, Greater}
use Rattle.std.specs.Ordering.{is_lt, is_eq, ordering_reverse, ordering_index}
use Rattle.std.specs.Cmp.{IsTotalOrder}
use Rattle.std.specs.List.{list_any, AllByRecursion, AllWithin, insert, remove}
use Rattle.std.specs.List.Sorted.{IsStrictlySortedBy, IsSortedBy, IsNonDecreasingBy, IsSearchInRange, IsBinarySearchResult}
use Rattle.std.specs.Result.{result_ok, result_err}
use Rattle.std.proofs.lemmas.List.Sorted.{searchable_from_sorted}
use Rattle.std.proofs.lemmas.List.Folds.{list_any_at}

-- each of them comes behind x
abbrev pub AllBehind : {K : Type 0} → (K → K → Ordering) → K → List K → Type 0
AllBehind order x ys = AllByRecursion (λ y. order x y ≡ Less) ys

-- an order, and the test of what ties in it
pub record IsOrder {K : Type 0} (order : K → K → Ordering) (same : K → K → Bool) : Type 0 where
  pub total : IsTotalOrder order
  pub ties : (x y : K) → same x y ≡ is_eq (order x y)
  pub is : (x y : K) → same x y ≡ true → x ≡ y
  pub self : (x : K) → same x x ≡ true

and_true : (b : Bool) → (b && true) ≡ b
and_true true = refl
and_true false = refl

or_swap : (a b c : Bool) → (a || (b || c)) ≡ (b || (a || c))
or_swap true true c = refl
or_swap true false c = refl
or_swap false b c = refl

pub length_remove : {A : Type 0} (xs : List A) (i : ℕ) → i < length xs → length (remove xs i) + 1 ≡ length xs
length_remove [] i lt = absurd (omega (arith, lt))
length_remove (x ∷ xs) zero lt = omega arith
length_remove (x ∷ xs) (suc i) lt = let rest = length_remove xs i (omega (arith, lt)) in omega (arith, rest)

module _ {K : Type 0} {order : K → K → Ordering} {same : K → K → Bool} (o : IsOrder order same) where
  turned : (x y : K) → order x y ≡ ordering_reverse (order y x)
  turned x y = o.total.antisymm x y

  -- neighbours are in order
  sorted_by : (xs : List K) → IsStrictlySortedBy order xs → IsSortedBy (λ a b. is_lt (order a b)) xs
  unfolding IsStrictlySortedBy
  sorted_by [] up k d low lt = absurd (omega (arith, lt))
  sorted_by (x ∷ []) up k d low lt = absurd (omega (arith, lt))
  sorted_by (x ∷ y ∷ ys) up zero d low lt = rw (turned y x, up.0.0) refl
  sorted_by (x ∷ y ∷ ys) up (suc k) d low lt = let e : suc k + 1 ≡ suc (k + 1) = omega arith in rw e (sorted_by (y ∷ ys) up.1 k d (omega arith) (omega (arith, lt)))

  -- a binary search may be made
  pub searchable : (xs : List K) (x : K) → IsStrictlySortedBy order xs → IsNonDecreasingBy (λ y. ordering_index (order y x)) xs
  searchable xs x up = searchable_from_sorted o.total (λ y. y) xs x (sorted_by xs up)

  pub equal_is : (x y : K) → order x y ≡ Equal → x ≡ y
  equal_is x y e = o.is x y (o.ties x y ∙ ap is_eq e)

  none_in : (x : K) (ys : List K) → ((k : ℕ) (d : K) → k < length ys → same x (get_or ys k d) ≡ false) → list_any (same x) ys ≡ false
  none_in x [] none = refl
  none_in x (y ∷ ys) none = rw (none 0 y (omega arith)) (none_in x ys (λ k d lt. none (suc k) d (omega (arith, lt))))

  pub less_not : (x y : K) → order y x ≡ Less → same x y ≡ false
  less_not x y e = o.ties x y ∙ ap is_eq (turned x y ∙ ap ordering_reverse e)

  greater_not : (x y : K) → order y x ≡ Greater → same x y ≡ false
  greater_not x y e = o.ties x y ∙ ap is_eq (turned x y ∙ ap ordering_reverse e)

  -- what lies between the lesser and the greater ones is not there
  pub absent : (x : K) (ys : List K) (i : ℕ) → AllWithin (λ y. order y x ≡ Less) ys 0 i → AllWithin (λ y. order y x ≡ Greater) ys i (length ys) → list_any (same x) ys ≡ false
  absent x ys i below above = none_in x ys (λ k d lt. by k d lt (cases_lt k i))
    where
      by : (k : ℕ) (d : K) → k < length ys → (k < i) ⊎ (i ≤ k) → same x (get_or ys k d) ≡ false
      by k d lt (inl less) = less_not x (get_or ys k d) (below k d (omega arith) less)
      by k d lt (inr more) = greater_not x (get_or ys k d) (above k d more lt)

  all_behind : (x : K) (ys : List K) → ((k : ℕ) (d : K) → k < length ys → order (get_or ys k d) x ≡ Greater) → AllBehind order x ys
  all_behind x [] above = tt
  all_behind x (y ∷ ys) above = (turned x y ∙ ap ordering_reverse (above 0 y (omega arith)), all_behind x ys (λ k d lt. above (suc k) d (omega (arith, lt))))

  behind_insert : (y x : K) (ys : List K) (i : ℕ) → AllBehind order y ys → order y x ≡ Less → AllBehind order y (insert ys i x)
  behind_insert y x [] zero all e = (e, tt)
  behind_insert y x [] (suc i) all e = (e, tt)
  behind_insert y x (u ∷ us) zero all e = (e, all)
  behind_insert y x (u ∷ us) (suc i) all e = (all.0, behind_insert y x us i all.1 e)

  -- and put there it is in order
  pub ascends_insert : (x : K) (ys : List K) (i : ℕ) → IsStrictlySortedBy order ys → i ≤ length ys → AllWithin (λ y. order y x ≡ Less) ys 0 i → AllWithin (λ y. order y x ≡ Greater) ys i (length ys) → IsStrictlySortedBy order (insert ys i x)
  unfolding IsStrictlySortedBy
  ascends_insert x ys zero up le below above = (all_behind x ys (λ k d lt. above k d (omega arith) lt), up)
  ascends_insert x [] (suc i) up le below above = absurd (omega (arith, le))
  ascends_insert x (y ∷ ys) (suc i) up le below above = (
    behind_insert y x ys i up.0 (below 0 y (omega arith) (omega arith)),
    ascends_insert x ys i up.1 (omega (arith, le)) (λ k d low high. below (suc k) d (omega arith) (omega (arith, high))) (λ k d low high. above (suc k) d (omega (arith, low)) (omega (arith, high))),
  )

  -- what stands at a place is there
  pub present : (x : K) (ys : List K) (i : ℕ) (d : K) → i < length ys → get_or ys i d ≡ x → list_any (same x) ys ≡ true
  present x ys i d lt e = list_any_at (same x) ys i d lt (ap (same x) e ∙ o.self x)

  pub behind_at : (x : K) (ys : List K) (k : ℕ) (d : K) → AllBehind order x ys → k < length ys → order x (get_or ys k d) ≡ Less
  behind_at x [] k d all lt = absurd (omega (arith, lt))
  behind_at x (y ∷ ys) zero d all lt = all.0
  behind_at x (y ∷ ys) (suc k) d all lt = behind_at x ys k d all.1 (omega (arith, lt))

  less_apart : (x y : K) → order x y ≡ Less → x ≡ y → ⊥
  less_apart x y e is = true≢false (sym (o.self y) ∙ less_not y y (ap (λ u. order u y) (sym is) ∙ e))

  -- two places have two members
  pub apart : (ys : List K) (i j : ℕ) (d : K) → IsStrictlySortedBy order ys → i < j → j < length ys → get_or ys i d ≡ get_or ys j d → ⊥
  unfolding IsStrictlySortedBy
  apart [] i j d up less lt is = omega (arith, lt)
  apart (x ∷ xs) zero zero d up less lt is = omega (arith, less)
  apart (x ∷ xs) zero (suc j) d up less lt is = less_apart x (get_or xs j d) (behind_at x xs j d up.0 (omega (arith, lt))) is
  apart (x ∷ xs) (suc i) zero d up less lt is = omega (arith, less)
  apart (x ∷ xs) (suc i) (suc j) d up less lt is = apart xs i j d up.1 (omega (arith, less)) (omega (arith, lt)) is

  -- what a binary search says
  pub searched : (x : K) (ys : List K) (r : Result ℕ ℕ) → IsSearchInRange r (length ys) → IsBinarySearchResult (λ y. order y x) ys r → IsStrictlySortedBy order ys
      → MatchOption (result_ok r) (list_any (same x) ys ≡ false) (λ at. (at < length ys) × ((d : K) → get_or ys at d ≡ x))
  searched x ys (Ok at) within is up = (within, λ d. equal_is (get_or ys at d) x (is d))
  searched x ys (Err at) within is up = let point = is (searchable ys x up) in absent x ys at point.0 point.1

  -- ---- without a member

  behind_remove : (y : K) (ys : List K) (i : ℕ) → AllBehind order y ys → AllBehind order y (remove ys i)
  behind_remove y [] zero all = tt
  behind_remove y [] (suc i) all = tt
  behind_remove y (u ∷ us) zero all = all.1
  behind_remove y (u ∷ us) (suc i) all = (all.0, behind_remove y us i all.1)

  pub ascends_remove : (ys : List K) (i : ℕ) → IsStrictlySortedBy order ys → IsStrictlySortedBy order (remove ys i)
  unfolding IsStrictlySortedBy
  ascends_remove [] zero up = tt
  ascends_remove [] (suc i) up = tt
  ascends_remove (y ∷ ys) zero up = up.1
  ascends_remove (y ∷ ys) (suc i) up = (behind_remove y ys i up.0, ascends_remove ys i up.1)

  pub none_behind : (x : K) (ys : List K) → AllBehind order x ys → list_any (same x) ys ≡ false
  none_behind x [] all = refl
  none_behind x (y ∷ ys) all = rw (o.ties x y ∙ ap is_eq all.0) (none_behind x ys all.1)

  -- the others are there as before
  pub in_remove : (c x : K) (ys : List K) (i : ℕ) (d : K) → IsStrictlySortedBy order ys → i < length ys → get_or ys i d ≡ x → list_any (same c) (remove ys i) ≡ (list_any (same c) ys && not (same c x))
  unfolding IsStrictlySortedBy
  in_remove c x [] i d up lt e = absurd (omega (arith, lt))
  in_remove c x (y ∷ ys) zero d up lt e = by (same c y) refl
    where
      by : (b : Bool) → same c y ≡ b → list_any (same c) ys ≡ ((b || list_any (same c) ys) && not (same c x))
      by true is = rw (sym e, is) (ap (λ z. list_any (same z) ys) (o.is c y is) ∙ none_behind y ys up.0)
      by false is = rw (sym e, is) (sym (and_true (list_any (same c) ys)))
  in_remove c x (y ∷ ys) (suc i) d up lt e = by (same c y) refl (in_remove c x ys i d up.1 (omega (arith, lt)) e)
    where
      by : (b : Bool) → same c y ≡ b → list_any (same c) (remove ys i) ≡ (list_any (same c) ys && not (same c x)) → (b || list_any (same c) (remove ys i)) ≡ ((b || list_any (same c) ys) && not (same c x))
      by true is rest =
          let other : same c x ≡ false = ap (λ z. same z x) (o.is c y is) ∙ o.ties y x ∙ ap is_eq (ap (order y) (sym e) ∙ behind_at y ys i d up.0 (omega (arith, lt))) in
          rw other refl
      by false is rest = rest

  pub in_insert : (c x : K) (ys : List K) (i : ℕ) → list_any (same c) (insert ys i x) ≡ (same c x || list_any (same c) ys)
  in_insert c x ys zero = refl
  in_insert c x [] (suc i) = refl
  in_insert c x (y ∷ ys) (suc i) = ap (λ b. same c y || b) (in_insert c x ys i) ∙ or_swap (same c y) (same c x) (list_any (same c) ys)

  -- what is not there is not taken out
  pub in_without : (c x : K) (ys : List K) → list_any (same x) ys ≡ false → list_any (same c) ys ≡ (list_any (same c) ys && not (same c x))
  in_without c x ys none = by (same c x) refl
    where
      by : (b : Bool) → same c x ≡ b → list_any (same c) ys ≡ (list_any (same c) ys && not b)
      by true is = rw (ap (λ z. list_any (same z) ys) (o.is c x is) ∙ none) refl
      by false is = sym (and_true (list_any (same c) ys))

  -- where a member may be put
  pub places : (x : K) (ys : List K) (r : Result ℕ ℕ) → IsSearchInRange r (length ys) → IsBinarySearchResult (λ y. order y x) ys r → IsStrictlySortedBy order ys
      → MatchOption (result_err r) (list_any (same x) ys ≡ true) (λ at. IsStrictlySortedBy order (insert ys at x))
  places x ys (Ok at) within is up = present x ys at x within (equal_is (get_or ys at x) x (is x))
  places x ys (Err at) within is up = let point = is (searchable ys x up) in ascends_insert x ys at up within point.0 point.1
