-- A name put in its place among names in byte order.
use Rattle.std.proofs.Common.{◌≡◌, ℕ, zero, suc, ◌+◌, ◌<◌, ◌≤◌, Bool, true, false, ◌||◌, List, [], ◌∷◌, length, get_or, inl, inr, refl, ap, ◌∙◌, arith}
use Rattle.std.specs.List.{insert, list_any, AllWithin}
use Rattle.std.specs.Ordering.{nat_cmp, ordering_index, ordering_reverse, is_eq}
use Rattle.std.specs.declared.cmp.Ordering.{Ordering}
use Rattle.std.specs.declared.cmp.Ordering.TheVariants.{Less, Equal, Greater}
use Rattle.std.specs.List.Sorted.{IsNonDecreasingBy}
use Rattle.std.specs.Cmp.Lexicographic.{slice_cmp, nat_list_cmp_total, texts_ties}
use Rattle.std.proofs.lemmas.Bool.{cases_lt}
use Rattle.std.proofs.lemmas.List.Edits.{get_or-insert_at, get_or-insert_below, get_or-insert_above, length-insert}
use Rattle.std.proofs.lemmas.List.Folds.{list_any_at}
use Rattle.std.proofs.lemmas.Map.Keys.{Less-from_sorted, sorted_from_all_adjacent}
use Rattle.news_types.proofs.Members.{same_is, same_self}
use Rattle.news_types.specs.Names.{Bytes, same, is_in, AreInOrder}

abbrev order : Bytes → Bytes → Ordering
order = slice_cmp nat_cmp

reversed : (o : Ordering) → o ≡ Greater → ordering_reverse o ≡ Less
reversed Less is = cc
reversed Equal is = cc
reversed Greater is = refl

-- a later name compares no lower
later : (a b name : Bytes) → order a b ≡ Less → ordering_index (order a name) ≤ ordering_index (order b name)
later a b name less =
    elim (order b name) as (λ o. order b name ≡ o → ordering_index (order a name) ≤ ordering_index o) [
      | Less ↦ λ is. let e : order a name ≡ Less = nat_list_cmp_total.trans a b name less is in rw e (omega arith)
      | Equal ↦ λ is.
          let b_is : b ≡ name = same_is b name (texts_ties b name ∙ ap is_eq is) in
          let e : order a name ≡ Less = rw (← b_is) less in
          rw e (omega arith)
      | Greater ↦ λ is. most (order a name)
    ] refl
  where
    most : (o : Ordering) → ordering_index o ≤ 2
    most Less = omega arith
    most Equal = omega arith
    most Greater = omega arith

-- names in order compare so with any name
pub rises : (names : List Bytes) (name : Bytes) → AreInOrder names → IsNonDecreasingBy (λ y. ordering_index (order y name)) names
rises names name sorted i j d le lt =
    elim (cases_lt i j) [
      | inl less ↦ later (get_or names i d) (get_or names j d) name (Less-from_sorted order names i j d sorted less lt)
      | inr more ↦ let e : i ≡ j = omega arith in rw e (omega arith)
    ]

-- between those below it and those above it
pub inserted_in_order : (names : List Bytes) (name : Bytes) (i : ℕ) → AreInOrder names → i ≤ length names → AllWithin (λ y. order y name ≡ Less) names 0 i
    → AllWithin (λ y. order y name ≡ Greater) names i (length names) → AreInOrder (insert names i name)
inserted_in_order names name i sorted within below above = sorted_from_all_adjacent nat_list_cmp_total (insert names i name) [] adjacent
  where
    adjacent : (k : ℕ) → k + 1 < length (insert names i name) → order (get_or (insert names i name) k []) (get_or (insert names i name) (k + 1) []) ≡ Less
    adjacent k lt =
        let long : k < length names = omega (arith, length-insert names i name within) in
        elim (cases_lt k i) [
          | inl before ↦ elim (cases_lt (k + 1) i) [
            | inl still ↦ rw (get_or-insert_below names i name [] k before within, get_or-insert_below names i name [] (k + 1) still within) (Less-from_sorted order names k (k + 1) [] sorted (omega arith) (omega arith))
            | inr here ↦
                let e : k + 1 ≡ i = omega arith in
                rw (get_or-insert_below names i name [] k before within, e, get_or-insert_at names i name [] within) (below k [] (omega arith) before)
          ]
          | inr behind ↦ elim (cases_lt i k) [
            | inl past ↦ after k past long
            | inr here ↦
                let e : k ≡ i = omega arith in
                rw (get_or-insert_above names i name [] k behind within, e, get_or-insert_at names i name [] within)
                (nat_list_cmp_total.antisymm name (get_or names i []) ∙ reversed (order (get_or names i []) name) (above i [] (omega arith) (omega arith)))
          ]
        ]
      where
        after : (n : ℕ) → i < n → n < length names → order (get_or (insert names i name) n []) (get_or (insert names i name) (n + 1) []) ≡ Less
        after zero past less = absurd (omega arith)
        after (suc n) past less =
            let step : n + 1 ≡ suc n = omega arith in
            let one : get_or (insert names i name) (suc n) [] ≡ get_or names n [] = rw (← step) (get_or-insert_above names i name [] n (omega arith) within) in
            rw (one, get_or-insert_above names i name [] (suc n) (omega arith) within) (Less-from_sorted order names n (suc n) [] sorted (omega arith) less)

-- one more name is in the list
pub any_inserted : {A : Type 0} (test : A → Bool) (xs : List A) (i : ℕ) (y : A) → list_any test (insert xs i y) ≡ (test y || list_any test xs)
any_inserted test [] zero y = refl
any_inserted test [] (suc i) y = refl
any_inserted test (x ∷ xs) zero y = refl
any_inserted test (x ∷ xs) (suc i) y = rw (any_inserted test xs i y) (swapped (test x) (test y) (list_any test xs))
  where
    swapped : (a b c : Bool) → (a || (b || c)) ≡ (b || (a || c))
    swapped true true c = refl
    swapped true false c = refl
    swapped false b c = refl

-- a name that is there already
pub there_already : (names : List Bytes) (name other : Bytes) → is_in name names ≡ true → is_in other names ≡ (same other name || is_in other names)
there_already names name other there =
    elim (same other name) as (λ b. same other name ≡ b → is_in other names ≡ (b || is_in other names)) [
      | true ↦ λ is. let e : other ≡ name = same_is other name is in rw e there
      | false ↦ λ is. refl
    ] refl

-- that a name at a place compares equal
pub found_there : (names : List Bytes) (name : Bytes) (i : ℕ) (d : Bytes) → i < length names → order (get_or names i d) name ≡ Equal → is_in name names ≡ true
found_there names name i d lt is =
    let alike : get_or names i d ≡ name = same_is (get_or names i d) name (texts_ties (get_or names i d) name ∙ ap is_eq is) in
    list_any_at (same name) names i d lt (rw alike (same_self name))
