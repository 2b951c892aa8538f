-- The bytes of many characters.
use Rattle.std.proofs.Common.{◌≡◌, ℕ, ◌+◌, ◌-◌, ◌*◌, ◌/◌, ◌≤◌, true, List, [], ◌∷◌, length, length-append, count_by, leb, refl, arith, inl, inr}
use Rattle.std.specs.Char.{encode_utf8}
use Rattle.std.specs.List.{filter}
use Rattle.std.specs.Str.{encode_utf8_all}
use Rattle.std.proofs.lemmas.Bool.{cases_lt, le-leb, lt-leb}
use Rattle.std.proofs.lemmas.List.Sums.{length-filter}
use Rattle.std.proofs.lemmas.Str.{length-encode, len_utf8_ascii, len_utf8_bounds}
use Rattle.agency_wires.specs.Parts.{is_within}

wide_length : (xs : List ℕ) → length (encode_utf8_all xs) ≤ length xs + 3 * length (filter (λ c. leb 128 c) xs)
wide_length [] = omega arith
wide_length (c ∷ xs) =
    let h = wide_length xs in
    let sum = length-append (encode_utf8 c) (encode_utf8_all xs) in
    let size = length-encode c in
    elim (cases_lt c 128) [
      | inl lt ↦ let one = len_utf8_ascii c lt in rw (lt-leb 128 c lt) (omega (arith, h, sum, size, one))
      | inr ge ↦ let most = len_utf8_bounds c in rw (le-leb 128 c ge) (omega (arith, h, sum, size, most.1))
    ]

fits_within : (n : ℕ) (xs : List ℕ) → length (encode_utf8_all xs) ≤ n → is_within n xs ≡ true
fits_within n [] l = refl
fits_within n (c ∷ xs) l =
    let sum = length-append (encode_utf8 c) (encode_utf8_all xs) in
    let t : leb (length (encode_utf8 c)) n ≡ true = le-leb (length (encode_utf8 c)) n (omega (arith, l, sum)) in
    rw t (fits_within (n - length (encode_utf8 c)) xs (omega (arith, l, sum)))

pub few_within : (n : ℕ) (xs : List ℕ) → length xs ≤ n → count_by (λ c. leb 128 c) xs ≤ (n - length xs) / 3 → is_within n xs ≡ true
few_within n xs l w =
    let third : 3 * ((n - length xs) / 3) ≤ n - length xs = omega arith in
    fits_within n xs (omega (arith, wide_length xs, length-filter (λ c. leb 128 c) xs, l, w, third))
