-- Reading up to a byte that ends, as a loop does it.
use Rattle.std.proofs.Common.{◌≡◌, ℕ, suc, ◌<◌, ◌≤◌, ◌+◌, ◌-◌, ◌*◌, ◌^◌, List, [], ◌∷◌, ◌++◌, length, take, drop, get_or, Option, Some, None, Result, Ok, Err, refl, sym, ap, ◌∙◌, arith, inl, inr, add-one, drop-cons, length-drop}
use Rattle.std.proofs.lemmas.List.{take_more}
use Rattle.std.proofs.Math.ListN.{drop_of_length-le}
use Rattle.byte_formats.specs.Format.{with_byte}
use Rattle.byte_formats.specs.Until.{until_at, taken, before_last, value_after, numeral_step}
use Rattle.byte_formats.proofs.Scans.{with_front, with_front_byte, with_none}
use Rattle.byte_formats.proofs.Words.{before_last-push}
use Rattle.byte_formats.proofs.Numerals.{first_cases, next_cases, first_digit, first_zero, next_digit, next_stop, state_is, clash}

-- what the loop has seen, and what is still to be seen
pub record SeenUntil {S : Type 0} (step : S → ℕ → Option (Option S)) (start : S) (bytes : List ℕ) (i : ℕ) (s : S) : Type 0 where
  pub within : i ≤ length bytes
  pub so_far : until_at step start bytes ≡ with_front (take i bytes) (until_at step s (drop i bytes))

pub until_begins : {S : Type 0} (step : S → ℕ → Option (Option S)) (start : S) (bytes : List ℕ) → SeenUntil step start bytes 0 start
until_begins step start bytes = record { within = omega arith; so_far = with_none (until_at step start bytes) }

one_more : {S : Type 0} (step : S → ℕ → Option (Option S)) (bytes : List ℕ) (i : ℕ) (s : S) → i < length bytes
    → until_at step s (drop i bytes) ≡ taken (step s (get_or bytes i 0)) (get_or bytes i 0) (drop (i + 1) bytes) (λ t. with_byte (get_or bytes i 0) (until_at step t (drop (i + 1) bytes)))
unfolding until_at
one_more step bytes i s long =
    let d : drop i bytes ≡ get_or bytes i 0 ∷ drop (i + 1) bytes = rw add-one (drop-cons bytes i 0 long) in
    rw d refl

abbrev then : {S : Type 0} → (S → ℕ → Option (Option S)) → List ℕ → ℕ → Option (Option S) → Result (List ℕ × List ℕ) ℕ
then step bytes i o = taken o (get_or bytes i 0) (drop (i + 1) bytes) (λ t. with_byte (get_or bytes i 0) (until_at step t (drop (i + 1) bytes)))

pub until_goes_on : {S : Type 0} (step : S → ℕ → Option (Option S)) (start : S) (bytes : List ℕ) (i : ℕ) (s t : S)
    → i < length bytes → step s (get_or bytes i 0) ≡ Some (Some t) → SeenUntil step start bytes i s → SeenUntil step start bytes (i + 1) t
until_goes_on step start bytes i s t long e seen =
    let b = get_or bytes i 0 in
    let rest = drop (i + 1) bytes in
    let one = one_more step bytes i s long ∙ ap (then step bytes i) e in
    let front : take (i + 1) bytes ≡ take i bytes ++ b ∷ [] = take_more bytes i 0 long in
    record {
      within = omega arith;
      so_far = seen.so_far ∙ ap (with_front (take i bytes)) one ∙ with_front_byte (take i bytes) b (until_at step t rest) ∙ ap (λ z. with_front z (until_at step t rest)) (sym front);
    }

pub until_ends : {S : Type 0} (step : S → ℕ → Option (Option S)) (start : S) (bytes : List ℕ) (i : ℕ) (s : S)
    → i < length bytes → step s (get_or bytes i 0) ≡ Some None → SeenUntil step start bytes i s → until_at step start bytes ≡ Ok (take (i + 1) bytes, drop (i + 1) bytes)
until_ends step start bytes i s long e seen =
    let rest = drop (i + 1) bytes in
    let one = one_more step bytes i s long ∙ ap (then step bytes i) e in
    seen.so_far ∙ ap (with_front (take i bytes)) one ∙ ap (λ (z : List ℕ). Ok (z, rest)) (sym (take_more bytes i 0 long))

pub until_refuses : {S : Type 0} (step : S → ℕ → Option (Option S)) (start : S) (bytes : List ℕ) (i : ℕ) (s : S)
    → i < length bytes → step s (get_or bytes i 0) ≡ None → SeenUntil step start bytes i s → until_at step start bytes ≡ Err (length bytes - i)
until_refuses step start bytes i s long e seen =
    let one = one_more step bytes i s long ∙ ap (then step bytes i) e in
    let left : suc (length (drop (i + 1) bytes)) ≡ length bytes - i = omega (arith, length-drop (i + 1) bytes) in
    seen.so_far ∙ ap (with_front (take i bytes)) one ∙ ap (λ z. Err z) left

pub until_too_short : {S : Type 0} (step : S → ℕ → Option (Option S)) (start : S) (bytes : List ℕ) (i : ℕ) (s : S) → length bytes ≤ i → SeenUntil step start bytes i s → until_at step start bytes ≡ Err 0
unfolding until_at
until_too_short step start bytes i s le seen =
    let d : drop i bytes ≡ [] = drop_of_length-le bytes le in
    let last : until_at step s (drop i bytes) ≡ Err 0 = rw d refl in
    seen.so_far ∙ ap (with_front (take i bytes)) last

-- the bytes before the last of those that were read
pub front_of : (bytes : List ℕ) (i : ℕ) → i < length bytes → before_last (take (i + 1) bytes) ≡ take i bytes
front_of bytes i long = ap before_last (take_more bytes i 0 long) ∙ before_last-push (take i bytes) (get_or bytes i 0)

-- ---- the number so far

abbrev pub IsValue : Option ℕ → List ℕ → Type 0
IsValue None x = x ≡ []
IsValue (Some v) x = value_after 0 x ≡ v

value_after-push : (v : ℕ) (x : List ℕ) (b : ℕ) → value_after v (x ++ b ∷ []) ≡ value_after v x * 10 + (b - 48)
value_after-push v [] b = refl
value_after-push v (c ∷ x) b = value_after-push (v * 10 + (c - 48)) x b

module _ (stop least most : ℕ) (no_digit : stop < 48) (few : least ≤ 1) (some : least ≤ most) (bound : most < 2 ^ 64) where
  abbrev step : Option ℕ → ℕ → Option (Option (Option ℕ))
  step = numeral_step stop least most

  pub value_more : (s : Option ℕ) (x : List ℕ) (b w : ℕ) → IsValue s x → step s b ≡ Some (Some (Some w)) → IsValue (Some w) (x ++ b ∷ [])
  value_more None x b w is e =
      let first : value_after 0 (x ++ b ∷ []) ≡ b - 48 = ap (λ z. value_after 0 (z ++ b ∷ [])) is ∙ omega arith in
      elim (first_cases stop least most no_digit few some bound b) [
        | inl d ↦ first ∙ (let k = state_is (Some (b - 48)) (Some w) (sym (first_digit stop least most no_digit few some bound b d.0 d.1 d.2) ∙ e) in cc (k))
        | inr other ↦ elim other [
          | inl z ↦ first ∙ (let k = state_is (Some 0) (Some w) (sym (first_zero stop least most no_digit few some bound b z.0 z.1) ∙ e) in let w_is : 0 ≡ w = cc (k) in omega (arith, z.0))
          | inr none ↦ clash (step None b) None (Some (Some (Some w))) none e (λ bad. absurd (cc (bad)))
        ]
      ]
  value_more (Some v) x b w is e =
      elim (next_cases stop least most no_digit few some bound v b) [
        | inl same ↦ clash (step (Some v) b) (Some None) (Some (Some (Some w))) (ap (step (Some v)) same ∙ next_stop stop least most no_digit few some bound v) e (λ bad. absurd (cc (bad)))
        | inr other ↦ elim other [
          | inl on ↦
              let k = state_is (Some (v * 10 + (b - 48))) (Some w) (sym (next_digit stop least most no_digit few some bound v b on.0 on.1 on.2 on.3) ∙ e) in
              let w_is : v * 10 + (b - 48) ≡ w = cc (k) in
              value_after-push 0 x b ∙ omega (arith, is, w_is)
          | inr none ↦ clash (step (Some v) b) None (Some (Some (Some w))) none e (λ bad. absurd (cc (bad)))
        ]
      ]
