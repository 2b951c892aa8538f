-- Two digits, and digits behind a point.
use Rattle.std.specs.Prelude.{◌≡◌, ℕ, suc, ◌+◌, ◌-◌, ◌*◌, ◌/◌, ◌%◌, ◌<◌, ◌≤◌, Bool, true, false, ◌==◌, ◌&&◌, ◌||◌, nat_lt, if◌then◌else◌, List, [], ◌∷◌, ◌++◌, length, take, drop, Some, None}
use Rattle.std.proofs.Common.{arith, refl, sym, ap, ◌∙◌, subst}
use Rattle.std.specs.Char.{is_ascii_digit}
use Rattle.std.specs.List.{list_all, prefix_len}
use Rattle.std.proofs.lemmas.Bool.Decides.{nat_tests}
use Rattle.std.proofs.lemmas.List.{take-append-drop, drop_at}
use Rattle.std.proofs.lemmas.List.Folds.{length-prefix_len}
use Rattle.news_types.specs.Clock.{pair_number}
use Rattle.release_rules.specs.Texts.{fraction_text, IsFraction}
use Rattle.release_rules.specs.Reader.{behind_digits, behind_fraction}

digit-true : (d : ℕ) → d < 10 → is_ascii_digit (48 + d) ≡ true
digit-true d lt = grind (arith, nat_tests)

pub pair_number-two : (n : ℕ) → n < 100 → pair_number (48 + n / 10) (48 + n % 10) ≡ Some n
pair_number-two n lt =
    let tens : is_ascii_digit (48 + n / 10) ≡ true = digit-true (n / 10) (omega arith) in
    let ones : is_ascii_digit (48 + n % 10) ≡ true = digit-true (n % 10) (omega arith) in
    let value : (48 + n / 10 - 48) * 10 + (48 + n % 10 - 48) ≡ n = omega arith in
    rw (tens, ones, value) refl

-- two bytes are the digits of a number below 100
pub record ArePair (a b n : ℕ) : Type 0 where
  pub below : n < 100
  pub tens : a ≡ 48 + n / 10
  pub ones : b ≡ 48 + n % 10

digits_of : (a b n : ℕ) → is_ascii_digit a ≡ true → is_ascii_digit b ≡ true → (a - 48) * 10 + (b - 48) ≡ n → ArePair a b n
digits_of a b n da db e =
    let ha : (48 ≤ a) × (a ≤ 57) = grind (arith, nat_tests) in
    let hb : (48 ≤ b) × (b ≤ 57) = grind (arith, nat_tests) in
    record { below = omega arith; tens = omega arith; ones = omega arith }

pub pair_number-some : (a b n : ℕ) → pair_number a b ≡ Some n → ArePair a b n
pair_number-some a b n e =
    elim (is_ascii_digit a) as (λ x. is_ascii_digit a ≡ x → (if x && is_ascii_digit b then Some ((a - 48) * 10 + (b - 48)) else None) ≡ Some n → ArePair a b n) [
      | true ↦ λ da. elim (is_ascii_digit b) as (λ y. is_ascii_digit b ≡ y → (if y then Some ((a - 48) * 10 + (b - 48)) else None) ≡ Some n → ArePair a b n) [
        | true ↦ λ db s. digits_of a b n da db (cc)
        | false ↦ λ db s. cc
      ] refl
      | false ↦ λ da s. cc
    ] refl e

-- ---- the fraction

pub prefix_len-digits : (p : ℕ → Bool) (digits rest : List ℕ) → list_all p digits ≡ true → prefix_len p rest ≡ 0 → prefix_len p (digits ++ rest) ≡ length digits
prefix_len-digits p [] rest all none = none
prefix_len-digits p (d ∷ digits) rest all none =
    elim (p d) as (λ b. (b && list_all p digits) ≡ true → (if b then 1 + prefix_len p (digits ++ rest) else 0) ≡ suc (length digits)) [
      | true ↦ λ more. let deeper = prefix_len-digits p digits rest more none in omega (arith, deeper)
      | false ↦ λ more. cc
    ] all

pub list_all-prefix : (p : ℕ → Bool) (text : List ℕ) → list_all p (take (prefix_len p text) text) ≡ true
list_all-prefix p [] = refl
list_all-prefix p (b ∷ text) =
    elim (p b) as (λ x. p b ≡ x → list_all p (take (if x then 1 + prefix_len p text else 0) (b ∷ text)) ≡ true) [
      | true ↦ λ e. let one : 1 + prefix_len p text ≡ suc (prefix_len p text) = omega arith in rw (one, e) (list_all-prefix p text)
      | false ↦ λ e. refl
    ] refl

-- behind a fraction stands what its text is followed by, if that begins with neither a point nor a digit
pub behind_fraction-text : (digits rest : List ℕ) → IsFraction digits → prefix_len is_ascii_digit rest ≡ 0 → behind_fraction rest ≡ Some rest → behind_fraction (fraction_text digits ++ rest) ≡ Some rest
behind_fraction-text [] rest is none plain = plain
behind_fraction-text (d ∷ digits) rest is none plain =
    let count : prefix_len is_ascii_digit ((d ∷ digits) ++ rest) ≡ suc (length digits) = prefix_len-digits is_ascii_digit (d ∷ digits) rest is.decimal none in
    let some : (suc (length digits) == 0) ≡ false = grind (arith, nat_tests) in
    let few : nat_lt 9 (suc (length digits)) ≡ false = let h : suc (length digits) ≤ 9 = is.few in grind (arith, nat_tests) in
    let left : drop (suc (length digits)) ((d ∷ digits) ++ rest) ≡ rest = drop_at (d ∷ digits) rest (suc (length digits)) refl in
    rw (count, some, few) (ap Some left)

-- the digits of a fraction and what follows them
pub record IsBehind (text rest : List ℕ) : Type 0 where
  pub digits : List ℕ
  pub form : IsFraction digits
  pub spelled : text ≡ fraction_text digits ++ rest

point_of : (digits rest text : List ℕ) → 1 ≤ length digits → IsFraction digits → text ≡ digits ++ rest → IsBehind (46 ∷ text) rest
point_of [] rest text some is e = absurd (omega arith)
point_of (d ∷ digits) rest text some is e = record { digits = d ∷ digits; form = is; spelled = ap (λ (t : List ℕ). 46 ∷ t) e }

behind_digits-some : (text rest : List ℕ) → behind_digits (prefix_len is_ascii_digit text) text ≡ Some rest → IsBehind (46 ∷ text) rest
behind_digits-some text rest e =
    let n = prefix_len is_ascii_digit text in
    let count = length-prefix_len is_ascii_digit text in
    elim (n == 0 || nat_lt 9 n) as (λ b. (n == 0 || nat_lt 9 n) ≡ b → (if b then None else Some (drop n text)) ≡ Some rest → IsBehind (46 ∷ text) rest) [
      | true ↦ λ no s. cc
      | false ↦ λ yes s.
          let few : (1 ≤ n) × (n ≤ 9) = grind (arith, nat_tests) in
          let behind : drop n text ≡ rest = cc in
          point_of (take n text) rest text (omega (arith, count, few)) (record { decimal = list_all-prefix is_ascii_digit text; few = omega (arith, count, few) })
          (sym (take-append-drop n text) ∙ ap (λ (t : List ℕ). take n text ++ t) behind)
    ] refl e

pub behind_fraction-some : (text rest : List ℕ) → behind_fraction text ≡ Some rest → IsBehind text rest
behind_fraction-some [] rest e = record { digits = []; form = record { decimal = refl; few = omega arith }; spelled = cc }
behind_fraction-some (b ∷ text) rest e =
    elim (b == 46) as (λ x. (b == 46) ≡ x → (if x then behind_digits (prefix_len is_ascii_digit text) text else Some (b ∷ text)) ≡ Some rest → IsBehind (b ∷ text) rest) [
      | true ↦ λ is s. let point : 46 ≡ b = grind (arith, nat_tests) in subst (λ (x : ℕ). IsBehind (x ∷ text) rest) point (behind_digits-some text rest s)
      | false ↦ λ no s. record { digits = []; form = record { decimal = refl; few = omega arith }; spelled = cc }
    ] refl e
