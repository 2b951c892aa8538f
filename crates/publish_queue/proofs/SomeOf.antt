-- What some of a list pass.
use Rattle.std.proofs.Common.{◌≡◌, Bool, true, false, cond, ◌&&◌, ◌||◌, List, [], ◌∷◌, refl, sym, ap}
use mathlib.Core.Bool.{true≢false}
use Rattle.std.specs.List.{All, list_any, filter}
use Rattle.std.proofs.lemmas.List.Elements.{All-head, All-tail}
use Rattle.news_types.specs.Members.{Each}

pub both_ways : (a b : Bool) → (a ≡ true → b ≡ true) → (b ≡ true → a ≡ true) → a ≡ b
both_ways true b there back = sym (there refl)
both_ways false true there back = back refl
both_ways false false there back = refl

pub not_both : (b : Bool) → (b ≡ true → ⊥) → b ≡ false
not_both true not = absurd (not refl)
not_both false not = refl

pub or_left : (a b : Bool) → a ≡ true → (a || b) ≡ true
or_left a b is = rw is refl

pub or_right : (a b : Bool) → b ≡ true → (a || b) ≡ true
or_right true b is = refl
or_right false b is = is

pub or_swap : (a b c : Bool) → (a || (b || c)) ≡ (b || (a || c))
or_swap true true c = refl
or_swap true false c = refl
or_swap false b c = refl

-- one of both
pub either : (a b : Bool) (C : Type 0) → (a || b) ≡ true → (a ≡ true → C) → (b ≡ true → C) → C
either true b C is one other = one refl
either false b C is one other = other is

module _ {A : Type 0} where
  pub any_more : (t u : A → Bool) (xs : List A) → ((x : A) → t x ≡ true → u x ≡ true) → list_any t xs ≡ true → list_any u xs ≡ true
  any_more t u [] more is = absurd (true≢false (sym is))
  any_more t u (x ∷ xs) more is = either (t x) (list_any t xs) _ is (λ here. or_left (u x) (list_any u xs) (more x here)) (λ there. or_right (u x) (list_any u xs) (any_more t u xs more there))

  pub any_or : (t u : A → Bool) (xs : List A) → list_any (λ x. t x || u x) xs ≡ (list_any t xs || list_any u xs)
  any_or t u [] = refl
  any_or t u (x ∷ xs) = rw (any_or t u xs) (by (t x) (u x) (list_any t xs) (list_any u xs))
    where
      by : (a b c d : Bool) → ((a || b) || (c || d)) ≡ ((a || c) || (b || d))
      by true b c d = refl
      by false true true d = refl
      by false true false d = refl
      by false false c d = refl

  pub any_both : (t u : A → Bool) (xs : List A) → list_any u (filter t xs) ≡ list_any (λ x. t x && u x) xs
  any_both t u [] = refl
  any_both t u (x ∷ xs) = elim (t x) as (λ b. list_any u (cond b (x ∷ filter t xs) (filter t xs)) ≡ ((b && u x) || list_any (λ y. t y && u y) xs)) [
    | true ↦ ap (λ b. u x || b) (any_both t u xs)
    | false ↦ any_both t u xs
  ]

  -- where the first test fails, the two others agree
  pub any_agree : (t u v : A → Bool) (xs : List A) → ((x : A) → t x ≡ false → u x ≡ v x) → list_any t xs ≡ false → list_any u xs ≡ list_any v xs
  any_agree t u v [] agree none = refl
  any_agree t u v (x ∷ xs) agree none = by (t x) refl none (any_agree t u v xs agree)
    where
      by : (b : Bool) → t x ≡ b → (b || list_any t xs) ≡ false → (list_any t xs ≡ false → list_any u xs ≡ list_any v xs) → (u x || list_any u xs) ≡ (v x || list_any v xs)
      by true is no-one rest = absurd (true≢false no-one)
      by false is no-one rest = rw (agree x is, rest no-one) refl

  -- one of them is found
  pub from_any : (P : A → Type 0) (t : A → Bool) (xs : List A) (C : Type 0) → Each P xs → list_any t xs ≡ true → ((x : A) → P x → t x ≡ true → C) → C
  from_any P t [] C all is then = absurd (true≢false (sym is))
  from_any P t (x ∷ xs) C all is then = either (t x) (list_any t xs) C is (λ here. then x all.0 here) (λ there. from_any P t xs C all.1 there then)

  pub from_all : (P : A → Type 0) (t : A → Bool) (xs : List A) (C : Type 0) → All P xs → list_any t xs ≡ true → ((x : A) → P x → t x ≡ true → C) → C
  from_all P t [] C all is then = absurd (true≢false (sym is))
  from_all P t (x ∷ xs) C all is then = either (t x) (list_any t xs) C is (λ here. then x (All-head P x xs all) here) (λ there. from_all P t xs C (All-tail P x xs all) there then)
