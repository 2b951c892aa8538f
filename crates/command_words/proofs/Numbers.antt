-- Words that are read as numbers.
use Rattle.std.proofs.Common.{◌≡◌, ◌<◌, ◌^◌, ℕ, Bool, true, false, cond, ◌&&◌, List, length, nat_lt, Some, None, Result, Ok, Err, refl, ap, rules}
use Rattle.std.specs.List.{list_all}
use Rattle.std.specs.Char.{is_ascii_digit}
use Rattle.std.specs.Result.{OkIff, result_ok}
use Rattle.std.specs.Str.Parse.{digits_value, ParsesUnsigned}
use Rattle.std.proofs.lemmas.Bool.{and_parts, ltb-true, lt-ltb}
use Rattle.std.proofs.lemmas.Str.Parse.{IsNumeralModel, numerals_by_value, parse_digits}
use Rattle.command_words.specs.Words.{leads_with_zero, number_of, seed_of}

own : IsNumeralModel (λ ds. list_all is_ascii_digit ds ≡ true) (digits_value 10)
own = numerals_by_value _ (search rules)

none_if : {A : Type 0} (b : Bool) (x : A) → (b ≡ true → ⊥) → None ≡ cond b (Some x) None
none_if true x not = absurd (not refl)
none_if false x not = refl

read_as : {E : Type 0} (word : List ℕ) (r : Result ℕ E) → OkIff r ((0 < length word) × (digits_value 10 word < 2 ^ 32)) (digits_value 10 word)
    → result_ok r ≡ cond (nat_lt 0 (length word) && nat_lt (digits_value 10 word) 4294967296) (Some (digits_value 10 word)) None
read_as word (Ok x) h = rw (lt-ltb 0 (length word) h.0.0, lt-ltb (digits_value 10 word) 4294967296 h.0.1) (ap Some h.1)
read_as word (Err e) h =
    none_if (nat_lt 0 (length word) && nat_lt (digits_value 10 word) 4294967296) (digits_value 10 word)
    (λ is. let p = and_parts (nat_lt 0 (length word)) (nat_lt (digits_value 10 word) 4294967296) is in h (ltb-true 0 (length word) p.0, ltb-true (digits_value 10 word) 4294967296 p.1))

-- digits that do not lead with a 0 are parsed as their number
pub number_read : {E : Type 0} (word : List ℕ) (r : Result ℕ E) → list_all is_ascii_digit word ≡ true → leads_with_zero word ≡ false → ParsesUnsigned 32 10 word r → result_ok r ≡ number_of word
number_read word r digits alone h = rw (digits, alone) (read_as word r (parse_digits own 32 word r h digits))

seed_as : {E : Type 0} (word : List ℕ) (r : Result ℕ E) → OkIff r ((0 < length word) × (digits_value 10 word < 2 ^ 64)) (digits_value 10 word)
    → result_ok r ≡ cond (nat_lt 0 (length word) && nat_lt (digits_value 10 word) 18446744073709551616) (Some (digits_value 10 word)) None
seed_as word (Ok x) h = rw (lt-ltb 0 (length word) h.0.0, lt-ltb (digits_value 10 word) 18446744073709551616 h.0.1) (ap Some h.1)
seed_as word (Err e) h =
    none_if (nat_lt 0 (length word) && nat_lt (digits_value 10 word) 18446744073709551616) (digits_value 10 word)
    (λ is. let p = and_parts (nat_lt 0 (length word)) (nat_lt (digits_value 10 word) 18446744073709551616) is in h (ltb-true 0 (length word) p.0, ltb-true (digits_value 10 word) 18446744073709551616 p.1))

-- so are those of a seed
pub seed_read : {E : Type 0} (word : List ℕ) (r : Result ℕ E) → list_all is_ascii_digit word ≡ true → leads_with_zero word ≡ false → ParsesUnsigned 64 10 word r → result_ok r ≡ seed_of word
seed_read word r digits alone h = rw (digits, alone) (seed_as word r (parse_digits own 64 word r h digits))
