-- A clock that is read again and again.
use Rattle.std.proofs.Common.{◌≡◌, ℕ, ◌+◌, List, [], ◌∷◌, length, drop, Some, None, refl, sym, ap, ◌∙◌, arith, subst}
use Rattle.std.specs.Prelude.{Result, Ok, Err, OnErr, slice_get}
use Rattle.news_types.proofs.Members.{none_some}
use Rattle.news_io.specs.Clock.{Gave, ClockMeaning}
use Rattle.drill_plan.specs.declared.planned.Planned.{Planned}
use Rattle.feed_drill.specs.Readings.{IsRead, IsReadAtMost}

module _ {C : Type 0} (clock : ClockMeaning C) where
  pub read_never : (c : C) → IsRead clock 0 c c
  read_never c = record {
    told = λ tells. tells;
    ahead = λ tells k.
        let none : k ≡ 0 + k = omega arith in
        ap (clock.ahead c) none;
  }

  pub read_again : (n : ℕ) (reading : ℕ) (old now new : C) → IsRead clock n old now → (clock.tells now → clock.tells new)
      → (clock.tells now → Gave (clock.ahead now) (reading ∷ []) (clock.ahead new)) → IsRead clock (n + 1) old new
  read_again n reading old now new so_far told gave = record {
    told = λ tells. told (so_far.told tells);
    ahead = λ tells k.
        let sum : n + (k + 1) ≡ n + 1 + k = omega arith in
        (gave (so_far.told tells)).1 k ∙ so_far.ahead tells (k + 1) ∙ ap (clock.ahead old) sum;
  }

  -- behind all of them
  pub read_for_each : (n left most : ℕ) (old new : C) → n + left ≡ most → left ≡ 0 → IsRead clock n old new → IsRead clock most old new
  read_for_each n left most old new sum none read =
      let all : n ≡ most = omega (arith, sum, none) in
      subst (λ (m : ℕ). IsRead clock m old new) all read

  -- or behind some
  pub read_for_some : (n left most : ℕ) (old new : C) → n + left ≡ most → IsRead clock n old new → IsReadAtMost clock most old new
  read_for_some n left most old new sum read = (n, omega (arith, sum), read)

  pub read_for_none : (most : ℕ) (c : C) → IsReadAtMost clock most c c
  read_for_none most c = (0, omega arith, read_never c)

  pub read_for_all : (most : ℕ) (old new : C) → IsRead clock most old new → IsReadAtMost clock most old new
  read_for_all most old new read = (most, omega arith, read)

-- ---- where it came to nothing

pub on_err : {A E : Type 0} {P : Type 0} (r : Result A E) → P → OnErr r P
on_err (Ok a) so = tt
on_err (Err e) so = so

-- ---- what is left of the plan

pub some_left : (planned : List Planned) (p : Planned) → Some p ≡ slice_get planned 0 → length planned ≡ length (drop 1 planned) + 1
some_left [] p is = absurd (none_some p (sym is))
some_left (q ∷ planned) p is = omega arith

pub none_left : (planned : List Planned) → None ≡ slice_get planned 0 → length planned ≡ 0
none_left [] is = refl
none_left (q ∷ planned) is = absurd (none_some q is)
