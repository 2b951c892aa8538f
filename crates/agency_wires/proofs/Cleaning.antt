-- The characters of a message, one by one.
use Rattle.std.proofs.Common.{◌≡◌, ℕ, zero, suc, ◌+◌, ◌-◌, ◌<◌, ◌≤◌, Bool, true, false, cond, ◌&&◌, ◌||◌, List, [], ◌∷◌, ◌++◌, length, map, get_or, drop, Option, Some, None, refl, sym, ap, ◌∙◌, arith, inl, inr, append_assoc, leb, eqb}
use Rattle.std.specs.Char.{encode_utf8}
use Rattle.std.specs.List.{list_all, cons_option}
use Rattle.std.specs.Option.{option_to_list}
use Rattle.std.specs.Str.{IsUtf8, chars, encode_utf8_all}
use Rattle.std.proofs.lemmas.Bool.{cases_Bool, cases_lt, ne_eqb}
use Rattle.std.proofs.lemmas.Bool.Decides.{nat_tests}
use Rattle.std.proofs.lemmas.List.{append-nil, drop_more}
use Rattle.std.proofs.lemmas.Str.{length-encode, len_utf8_bounds, encode_ascii, char_from_byte, encodes-chars, chars_past_char, IsUtf8-past_char, chars-nil}
use Rattle.text7901.specs.Fields.{begins_line}
use Rattle.agency_wires.specs.declared.characters.TheConstants.{UPPER_ROW}
use Rattle.agency_wires.specs.Characters.{windows_1252, joins, kept_as, cleaned}
use Rattle.agency_wires.specs.Cleaning.{kept_before}

-- ---- one character

kept_one : (t : Bool) (o : Option ℕ) (xs : List ℕ) → cond t xs (cons_option o xs) ≡ cond t [] (option_to_list o) ++ xs
kept_one true o xs = refl
kept_one false None xs = refl
kept_one false (Some c) xs = refl

pub cleaned_one : (c : ℕ) (rest : List ℕ) → cleaned (c ∷ rest) ≡ kept_before c rest ++ cleaned rest
cleaned_one c rest = kept_one (eqb c 13 && joins rest) (kept_as c) (cleaned rest)

-- ---- line ends, in bytes as in characters

parts_of : (xs : List ℕ) → 1 ≤ length xs → (h : ℕ) × (t : List ℕ) × (xs ≡ h ∷ t)
parts_of [] l = absurd (omega (arith, l))
parts_of (x ∷ xs) l = (x, xs, refl)

-- a character past ASCII begins with a byte past ASCII
front_byte : (c : ℕ) → 128 ≤ c → (h : ℕ) × (t : List ℕ) × (encode_utf8 c ≡ h ∷ t) × (128 ≤ h)
front_byte c l =
    let some : 1 ≤ length (encode_utf8 c) = omega (arith, length-encode c, (len_utf8_bounds c).0) in
    let p = parts_of (encode_utf8 c) some in
    elim (cases_lt p.0 128) [
      | inl lt ↦
          let same : p.0 ∷ p.1 ≡ encode_utf8 c ++ [] = sym p.2 ∙ sym (append-nil (encode_utf8 c)) in
          let is : c ≡ p.0 = char_from_byte (p.0 ∷ p.1) [] c same lt (omega arith) in
          absurd (omega (arith, is, lt, l))
      | inr ge ↦ (p.0, p.1, p.2, ge)
    ]

no_lf : (h : ℕ) → 128 ≤ h → eqb h 10 ≡ false
no_lf h l = ne_eqb h 10 (omega (arith, l))

no_cr : (h : ℕ) → 128 ≤ h → eqb h 13 ≡ false
no_cr h l = ne_eqb h 13 (omega (arith, l))

begins_line_encodes : (cs : List ℕ) → begins_line (encode_utf8_all cs) ≡ begins_line cs
begins_line_encodes [] = refl
begins_line_encodes (c ∷ cs) =
    elim (cases_lt c 128) [
      | inl lt ↦ ap (λ z. begins_line (z ++ encode_utf8_all cs)) (encode_ascii c lt)
      | inr ge ↦
          let p = front_byte c ge in
          ap (λ z. begins_line (z ++ encode_utf8_all cs)) p.2 ∙ no_lf p.0 p.3 ∙ sym (no_lf c ge)
    ]

joins_front : (s t x y : Bool) → s ≡ false → t ≡ false → (s || (t && x)) ≡ false
joins_front false false x y a b = refl
joins_front true t x y a b = cc
joins_front false true x y a b = cc

joins_encodes : (cs : List ℕ) → joins (encode_utf8_all cs) ≡ joins cs
joins_encodes [] = refl
joins_encodes (c ∷ cs) =
    elim (cases_lt c 128) [
      | inl lt ↦
          ap (λ z. joins (z ++ encode_utf8_all cs)) (encode_ascii c lt) ∙ ap (λ z. eqb c 10 || (eqb c 13 && z)) (begins_line_encodes cs)
      | inr ge ↦
          let p = front_byte c ge in
          ap (λ z. joins (z ++ encode_utf8_all cs)) p.2
          ∙ joins_front (eqb p.0 10) (eqb p.0 13) (begins_line (p.1 ++ encode_utf8_all cs)) true (no_lf p.0 p.3) (no_cr p.0 p.3)
          ∙ sym (joins_front (eqb c 10) (eqb c 13) (begins_line cs) true (no_lf c ge) (no_cr c ge))
    ]

joins_chars : (bs : List ℕ) → IsUtf8 bs → joins bs ≡ joins (chars bs)
joins_chars bs u = ap joins (sym (encodes-chars bs u)) ∙ joins_encodes (chars bs)

-- ---- a step in UTF-8

pub step_utf8 : (bs rest kept kept' whole : List ℕ) (c : ℕ) → IsUtf8 bs → bs ≡ encode_utf8 c ++ rest → kept' ≡ kept ++ kept_before c rest → kept ++ cleaned (chars bs) ≡ whole
    → kept' ++ cleaned (chars rest) ≡ whole
step_utf8 bs rest kept kept' whole c u e k h =
    let more = IsUtf8-past_char bs rest c u e in
    let first = chars_past_char bs rest c u e in
    let same : kept_before c rest ≡ kept_before c (chars rest) = ap (λ t. cond (eqb c 13 && t) [] (option_to_list (kept_as c))) (joins_chars rest more) in
    ap (λ z. z ++ cleaned (chars rest)) (k ∙ ap (λ z. kept ++ z) same)
    ∙ append_assoc kept (kept_before c (chars rest)) (cleaned (chars rest))
    ∙ ap (λ z. kept ++ z) (sym (cleaned_one c (chars rest)) ∙ ap cleaned (sym first))
    ∙ h

pub end_utf8 : (bs kept whole : List ℕ) → length bs ≡ 0 → kept ++ cleaned (chars bs) ≡ whole → kept ≡ whole
end_utf8 [] kept whole l h = sym (append-nil kept) ∙ ap (λ z. kept ++ cleaned z) (sym chars-nil) ∙ h
end_utf8 (b ∷ bs) kept whole l h = absurd (omega (arith, l))

-- ---- a step in Windows-1252

all_at : (p : ℕ → Bool) (xs : List ℕ) (k : ℕ) → list_all p xs ≡ true → k < length xs → p (get_or xs k 0) ≡ true
all_at p [] k e l = absurd (omega (arith, l))
all_at p (x ∷ xs) zero e l = first_part (p x) (list_all p xs) e
  where
    first_part : (s t : Bool) → (s && t) ≡ true → s ≡ true
    first_part true t e = refl
    first_part false t e = cc
all_at p (x ∷ xs) (suc k) e l = all_at p xs k (second_part (p x) (list_all p xs) e) (omega (arith, l))
  where
    second_part : (s t : Bool) → (s && t) ≡ true → t ≡ true
    second_part true t e = e
    second_part false t e = cc

row_high : (k : ℕ) → k < 32 → 128 ≤ get_or UPPER_ROW k 0
row_high k l =
    let high = all_at (λ c. leb 128 c) UPPER_ROW k refl l in
    grind (arith, nat_tests, high)

-- a byte past ASCII stays past it, and another is itself
windows_low : (b : ℕ) → b < 128 → windows_1252 b ≡ b
windows_low b l = let t : leb 128 b ≡ false = grind (arith, nat_tests, l) in rw t refl

windows_high : (b : ℕ) → 128 ≤ b → 128 ≤ windows_1252 b
windows_high b l =
    elim (cases_Bool (leb 128 b && leb b 159)) [
      | inl t ↦ let most : b - 128 < 32 = grind (arith, nat_tests, t) in rw t (row_high (b - 128) most)
      | inr f ↦ rw f l
    ]

begins_line_windows : (bs : List ℕ) → begins_line (map windows_1252 bs) ≡ begins_line bs
begins_line_windows [] = refl
begins_line_windows (b ∷ bs) =
    elim (cases_lt b 128) [
      | inl lt ↦ ap (λ z. eqb z 10) (windows_low b lt)
      | inr ge ↦ no_lf (windows_1252 b) (windows_high b ge) ∙ sym (no_lf b ge)
    ]

joins_windows : (bs : List ℕ) → joins (map windows_1252 bs) ≡ joins bs
joins_windows [] = refl
joins_windows (b ∷ bs) =
    elim (cases_lt b 128) [
      | inl lt ↦
          ap (λ z. eqb z 10 || (eqb z 13 && begins_line (map windows_1252 bs))) (windows_low b lt) ∙ ap (λ z. eqb b 10 || (eqb b 13 && z)) (begins_line_windows bs)
      | inr ge ↦
          let w = windows_1252 b in
          let high = windows_high b ge in
          joins_front (eqb w 10) (eqb w 13) (begins_line (map windows_1252 bs)) true (no_lf w high) (no_cr w high)
          ∙ sym (joins_front (eqb b 10) (eqb b 13) (begins_line bs) true (no_lf b ge) (no_cr b ge))
    ]

pub step_windows : (bs rest kept kept' whole : List ℕ) (i : ℕ) → i < length bs → rest ≡ drop (i + 1) bs → kept' ≡ kept ++ kept_before (windows_1252 (get_or bs i 0)) rest
    → kept ++ cleaned (map windows_1252 (drop i bs)) ≡ whole → kept' ++ cleaned (map windows_1252 (drop (i + 1) bs)) ≡ whole
step_windows bs rest kept kept' whole i l r k h =
    let c = windows_1252 (get_or bs i 0) in
    let more = drop (i + 1) bs in
    let told = map windows_1252 more in
    let same : kept_before c rest ≡ kept_before c told = ap (λ t. cond (eqb c 13 && t) [] (option_to_list (kept_as c))) (ap joins r ∙ sym (joins_windows more)) in
    ap (λ z. z ++ cleaned told) (k ∙ ap (λ z. kept ++ z) same)
    ∙ append_assoc kept (kept_before c told) (cleaned told)
    ∙ ap (λ z. kept ++ z) (sym (cleaned_one c told) ∙ ap (λ z. cleaned (map windows_1252 z)) (sym (drop_more bs i 0 l)))
    ∙ h
