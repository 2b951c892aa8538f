-- Decimals.
use Rattle.std.proofs.Common.{◌≡◌, ℕ, zero, suc, ◌<◌, ◌^◌, ◌&&◌, true, false, List, length, get_or, Option, Some, None, Result, Ok, Err, refl, sym, ap, subst, ◌∙◌, arith, rules, lit<}
use Rattle.std.specs.Prelude.{nat_lt, not, ◌==◌, slice_index, decimal, if◌then◌else◌}
use Rattle.std.specs.List.{list_all}
use Rattle.std.specs.Char.{is_ascii_digit}
use Rattle.std.specs.Result.{OkIff, result_ok}
use Rattle.std.specs.Str.Parse.{digits_value, ParsesUnsigned}
use Rattle.std.proofs.lemmas.Bool.{and_parts, ltb-true, ltb-false, lt-ltb, eqb-true, eq-eqb}
use Rattle.std.proofs.lemmas.Fmt.{digits_value-decimal, decimal-digits_value, digits_decimal, decimal_digit, decimal_nonempty, first_decimal}
use Rattle.std.proofs.lemmas.Str.Parse.{IsNumeralModel, numerals_by_value, parse_digits}
use Rattle.news_types.specs.Names.{Bytes, same}
use Rattle.news_types.proofs.Members.{same_is, same_self, some_is, none_some}
use Rattle.archive_query.specs.Reading.{decimal_said, is_decimal}

pub own : IsNumeralModel (λ ds. list_all is_ascii_digit ds ≡ true) (digits_value 10)
own = numerals_by_value _ (search rules)

-- a decimal says its number
pub decimal_itself : (token : Bytes) (n : ℕ) → token ≡ decimal n → n < 2 ^ 64 → decimal_said token ≡ Some n
unfolding decimal_said
decimal_itself token n is fits =
    let value : digits_value 10 token ≡ n = ap (digits_value 10) is ∙ digits_value-decimal own n fits in
    let below : nat_lt (digits_value 10 token) 18446744073709551616 ≡ true = ap (λ (m : ℕ). nat_lt m 18446744073709551616) value ∙ lt-ltb n 18446744073709551616 fits in
    let alike : same token (decimal (digits_value 10 token)) ≡ true = ap (λ (m : ℕ). same token (decimal m)) value ∙ (ap (λ (t : Bytes). same token t) (sym is) ∙ same_self token) in
    rw (below, alike) (ap (λ (m : ℕ). Some m) value)

-- and what says a number is its decimal
pub decimal_is : (token : Bytes) (n : ℕ) → decimal_said token ≡ Some n → (token ≡ decimal n) × (n < 2 ^ 64)
unfolding decimal_said
decimal_is token n is =
    elim (nat_lt (digits_value 10 token) 18446744073709551616 && same token (decimal (digits_value 10 token)))
    as (λ v. (nat_lt (digits_value 10 token) 18446744073709551616 && same token (decimal (digits_value 10 token))) ≡ v → (if v then Some (digits_value 10 token) else None) ≡ Some n → (token ≡ decimal n) × (n < 2 ^ 64)) [
      | true ↦ λ passes this.
          let parts = and_parts (nat_lt (digits_value 10 token) 18446744073709551616) (same token (decimal (digits_value 10 token))) passes in
          let value = some_is (digits_value 10 token) n this in
          (same_is token (decimal (digits_value 10 token)) parts.1 ∙ ap decimal value, subst (λ (m : ℕ). m < 2 ^ 64) value (ltb-true (digits_value 10 token) 18446744073709551616 parts.0))
      | false ↦ λ fails none. absurd (none_some n none)
    ] refl is

-- ---- what the program reads

decimal_alone : (n : ℕ) → n < 2 ^ 64 → (nat_lt 1 (length (decimal n)) && slice_index (decimal n) 0 == 48) ≡ false
decimal_alone zero fits = ap (λ (t : List ℕ). nat_lt 1 (length t) && slice_index t 0 == 48) (decimal_digit 0 (lit< tt))
decimal_alone (suc n) fits =
    elim (nat_lt 1 (length (decimal (suc n))) && slice_index (decimal (suc n)) 0 == 48) as (λ v. (nat_lt 1 (length (decimal (suc n))) && slice_index (decimal (suc n)) 0 == 48) ≡ v → v ≡ false) [
      | true ↦ λ leads.
          let zero_first = eqb-true (slice_index (decimal (suc n)) 0) 48 (and_parts (nat_lt 1 (length (decimal (suc n)))) (slice_index (decimal (suc n)) 0 == 48) leads).1 in
          absurd (omega (arith, first_decimal (suc n) (omega arith) fits))
      | false ↦ λ alone. refl
    ] refl

decimal_form : (n : ℕ) → n < 2 ^ 64 → is_decimal (decimal n) ≡ true
decimal_form n fits = rw (digits_decimal own n fits, decimal_alone n fits) refl

none_if : {A : Type 0} (o : Option A) → ((a : A) → o ≡ Some a → ⊥) → None ≡ o
none_if None never = refl
none_if (Some a) never = absurd (never a refl)

-- what is no decimal says nothing
pub none_said : (token : Bytes) → is_decimal token ≡ false → None ≡ decimal_said token
none_said token differs = none_if (decimal_said token) (λ n said.
    let d = decimal_is token n said in
    let is : is_decimal token ≡ true = ap is_decimal d.0 ∙ decimal_form n d.1 in
    absurd cc)

leads_alone : (token : Bytes) → is_decimal token ≡ true → get_or token 0 0 ≡ 48 → 0 < length token → length token ≡ 1
leads_alone token form zero_first some =
    elim (nat_lt 1 (length token)) as (λ v. nat_lt 1 (length token) ≡ v → length token ≡ 1) [
      | true ↦ λ long.
          let alone = (and_parts (list_all is_ascii_digit token) (not (nat_lt 1 (length token) && slice_index token 0 == 48)) form).1 in
          let leads : (nat_lt 1 (length token) && slice_index token 0 == 48) ≡ true = rw (long, eq-eqb (slice_index token 0) 48 zero_first) refl in
          absurd cc
      | false ↦ λ short. omega (arith, ltb-false 1 (length token) short)
    ] refl

read_as : {E : Type 0} (token : Bytes) (r : Result ℕ E) → is_decimal token ≡ true → OkIff r ((0 < length token) × (digits_value 10 token < 2 ^ 64)) (digits_value 10 token) → result_ok r ≡ decimal_said token
read_as token (Ok x) form h =
    let digits = (and_parts (list_all is_ascii_digit token) (not (nat_lt 1 (length token) && slice_index token 0 == 48)) form).0 in
    let is = decimal-digits_value own token digits h.0.0 (λ zero_first. leads_alone token form zero_first h.0.0) h.0.1 in
    ap (λ (m : ℕ). Some m) h.1 ∙ sym (decimal_itself token (digits_value 10 token) (sym is) h.0.1)
read_as token (Err e) form h = none_if (decimal_said token) (λ n said.
    let d = decimal_is token n said in
    let value : digits_value 10 token ≡ n = ap (digits_value 10) d.0 ∙ digits_value-decimal own n d.1 in
    let some : length token ≡ length (decimal n) = ap length d.0 in
    h (omega (arith, decimal_nonempty n d.1), omega (arith, d.1)))

-- a decimal is parsed as what it says
pub decimal_read : {E : Type 0} (token : Bytes) (r : Result ℕ E) → is_decimal token ≡ true → ParsesUnsigned 64 10 token r → result_ok r ≡ decimal_said token
decimal_read token r form h =
    let digits = (and_parts (list_all is_ascii_digit token) (not (nat_lt 1 (length token) && slice_index token 0 == 48)) form).0 in
    read_as token r form (parse_digits own 64 token r h digits)
