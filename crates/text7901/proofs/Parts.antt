-- Parts of some bytes, as loops find them.
use Rattle.std.proofs.Common.{◌≡◌, ◌≢◌, ◌==◌, ℕ, zero, suc, ◌+◌, ◌-◌, ◌<◌, ◌≤◌, Bool, cond, not, nat_le, List, [], ◌∷◌, ◌++◌, length, take, drop, get_or, reverse, Some, None, refl, sym, ap, subst, ◌∙◌, arith, inl, inr, length-append, eqb}
use Rattle.std.specs.List.{prefix_len, position, count_by, filter}
use Rattle.std.specs.Char.{encode_utf8, len_utf8}
use Rattle.std.proofs.lemmas.Bool.{cases_Bool, cases_eq, cases_lt, eq-eqb, ne_eqb, le-leb, lt-leb, lt-ltb, le-ltb}
use Rattle.std.proofs.lemmas.Bool.Decides.{nat_tests}
use Rattle.std.proofs.lemmas.List.{append-nil, take_all, take_more}
use Rattle.std.proofs.lemmas.List.Sums.{length-filter}
use Rattle.std.proofs.lemmas.Str.{encodes-append, length-encode, len_utf8_ascii}
use Rattle.text7901.specs.Fields.{lead, past, before, behind_byte, trim_front, without_last_lf, utf8}

one_more : (n : ℕ) → 1 + n ≡ suc n
one_more n = omega arith

-- ---- leading bytes

pub lead_prefix : (p : ℕ → Bool) (n : ℕ) (xs : List ℕ) → take (prefix_len p (take n xs)) xs ≡ lead p n xs
lead_prefix p zero xs = refl
lead_prefix p (suc n) [] = refl
lead_prefix p (suc n) (x ∷ xs) =
    elim (cases_Bool (p x)) [
      | inl e ↦ rw e (ap (λ k. take k (x ∷ xs)) (one_more (prefix_len p (take n xs))) ∙ ap (λ z. x ∷ z) (lead_prefix p n xs))
      | inr e ↦ rw e refl
    ]

pub past_prefix : (p : ℕ → Bool) (n : ℕ) (xs : List ℕ) → drop (prefix_len p (take n xs)) xs ≡ past p n xs
past_prefix p zero xs = refl
past_prefix p (suc n) [] = refl
past_prefix p (suc n) (x ∷ xs) =
    elim (cases_Bool (p x)) [
      | inl e ↦ rw e (ap (λ k. drop k (x ∷ xs)) (one_more (prefix_len p (take n xs))) ∙ past_prefix p n xs)
      | inr e ↦ rw e refl
    ]

-- ---- before and behind a byte

-- no such byte among these
abbrev pub IsWithout : ℕ → List ℕ → Type 0
IsWithout x [] = Unit {0}
IsWithout x (y ∷ ys) = (y ≢ x) × IsWithout x ys

pub before_first : (x : ℕ) (xs ys : List ℕ) → IsWithout x xs → before x (xs ++ x ∷ ys) ≡ xs
before_first x [] ys h = rw (eq-eqb x x refl) refl
before_first x (y ∷ xs) ys h = rw (ne_eqb y x h.0) (ap (λ z. y ∷ z) (before_first x xs ys h.1))

pub behind_first : (x : ℕ) (xs ys : List ℕ) → IsWithout x xs → behind_byte x (xs ++ x ∷ ys) ≡ ys
behind_first x [] ys h = rw (eq-eqb x x refl) refl
behind_first x (y ∷ xs) ys h = rw (ne_eqb y x h.0) (behind_first x xs ys h.1)

pub before_none : (x : ℕ) (xs : List ℕ) → IsWithout x xs → before x xs ≡ xs
before_none x [] h = refl
before_none x (y ∷ xs) h = rw (ne_eqb y x h.0) (ap (λ z. y ∷ z) (before_none x xs h.1))

pub behind_none : (x : ℕ) (xs : List ℕ) → IsWithout x xs → behind_byte x xs ≡ []
behind_none x [] h = refl
behind_none x (y ∷ xs) h = rw (ne_eqb y x h.0) (behind_none x xs h.1)

abbrev pub place : ℕ → List ℕ → ℕ
place x xs = prefix_len (λ b. not (b == x)) xs

without_before : (x : ℕ) (xs : List ℕ) → IsWithout x (take (place x xs) xs)
without_before x [] = tt
without_before x (y ∷ xs) =
    elim (cases_eq y x) [
      | inl e ↦ rw (eq-eqb y x e) tt
      | inr n ↦ rw (ne_eqb y x n) (subst (λ k. IsWithout x (take k (y ∷ xs))) (sym (one_more (place x xs))) (n, without_before x xs))
    ]

split_at_place : (x : ℕ) (xs : List ℕ) → place x xs < length xs → xs ≡ take (place x xs) xs ++ x ∷ drop (place x xs + 1) xs
split_at_place x [] l = absurd (omega (arith, l))
split_at_place x (y ∷ xs) l =
    elim (cases_eq y x) [
      | inl e ↦ rw (eq-eqb y x e) (ap (λ z. z ∷ xs) e)
      | inr n ↦
          let t = ne_eqb y x n in
          let more : place x (y ∷ xs) ≡ suc (place x xs) = rw t (omega arith) in
          let h = split_at_place x xs (omega (arith, l, more)) in
          let far : suc (place x xs) + 1 ≡ suc (place x xs + 1) = omega arith in
          ap (λ z. y ∷ z) h ∙ ap (λ k. y ∷ take (place x xs) xs ++ x ∷ drop k (y ∷ xs)) (sym far) ∙ ap (λ k. take k (y ∷ xs) ++ x ∷ drop (k + 1) (y ∷ xs)) (sym more)
    ]

-- what `position` finds
pub record IsPlace (x : ℕ) (xs : List ℕ) (i : ℕ) : Type 0 where
  pub none : IsWithout x (take i xs)
  pub split : xs ≡ take i xs ++ x ∷ drop (i + 1) xs
  pub within : i < length xs

pub place_found : (x : ℕ) (xs : List ℕ) (i : ℕ) → Some i ≡ position (λ b. b == x) xs → IsPlace x xs i
place_found x xs i e =
    elim (cases_lt (place x xs) (length xs)) [
      | inl lt ↦
          let there = ap (λ t. cond t (Some (place x xs)) None) (lt-ltb (place x xs) (length xs) lt) in
          let same : place x xs ≡ i = cc in
          subst (λ k. IsPlace x xs k) same (record { none = without_before x xs; split = split_at_place x xs lt; within = lt })
      | inr ge ↦ let there = ap (λ t. cond t (Some (place x xs)) None) (le-ltb (place x xs) (length xs) ge) in cc
    ]

pub place_none : (x : ℕ) (xs : List ℕ) → None ≡ position (λ b. b == x) xs → IsWithout x xs
place_none x xs e =
    elim (cases_lt (place x xs) (length xs)) [
      | inl lt ↦ let there = ap (λ t. cond t (Some (place x xs)) None) (lt-ltb (place x xs) (length xs) lt) in cc
      | inr ge ↦ subst (λ z. IsWithout x z) (take_all (place x xs) xs ge) (without_before x xs)
    ]

pub before_place : (x : ℕ) (xs : List ℕ) (i : ℕ) → IsPlace x xs i → take i xs ≡ before x xs
before_place x xs i h = sym (ap (before x) h.split ∙ before_first x (take i xs) (drop (i + 1) xs) h.none)

pub behind_place : (x : ℕ) (xs : List ℕ) (i : ℕ) → IsPlace x xs i → drop (i + 1) xs ≡ behind_byte x xs
behind_place x xs i h = sym (ap (behind_byte x) h.split ∙ behind_first x (take i xs) (drop (i + 1) xs) h.none)

-- ---- blanks at the ends

abbrev pub trim_back : List ℕ → List ℕ
trim_back xs = reverse (trim_front (reverse xs))

pub last_split : (xs : List ℕ) → 1 ≤ length xs → xs ≡ take (length xs - 1) xs ++ get_or xs (length xs - 1) 0 ∷ []
last_split xs l =
    let same : length xs ≡ length xs - 1 + 1 = omega (arith, l) in
    sym (take_all (length xs) xs (omega arith)) ∙ ap (λ n. take n xs) same ∙ take_more xs (length xs - 1) 0 (omega (arith, l))

-- ---- lines

last_lf_push : (ys : List ℕ) (z : ℕ) → without_last_lf (ys ++ z ∷ []) ≡ cond (eqb z 10) ys (ys ++ z ∷ [])
last_lf_push [] z = refl
last_lf_push (y ∷ []) z =
    elim (cases_Bool (eqb z 10)) [
      | inl e ↦ ap (λ t. y ∷ cond t [] (z ∷ [])) e ∙ sym (ap (λ t. cond t (y ∷ []) (y ∷ z ∷ [])) e)
      | inr e ↦ ap (λ t. y ∷ cond t [] (z ∷ [])) e ∙ sym (ap (λ t. cond t (y ∷ []) (y ∷ z ∷ [])) e)
    ]
last_lf_push (y ∷ x ∷ ys) z =
    let h = last_lf_push (x ∷ ys) z in
    elim (cases_Bool (eqb z 10)) [
      | inl e ↦ ap (λ w. y ∷ w) (h ∙ ap (λ t. cond t (x ∷ ys) (x ∷ ys ++ z ∷ [])) e) ∙ sym (ap (λ t. cond t (y ∷ x ∷ ys) (y ∷ x ∷ ys ++ z ∷ [])) e)
      | inr e ↦ ap (λ w. y ∷ w) (h ∙ ap (λ t. cond t (x ∷ ys) (x ∷ ys ++ z ∷ [])) e) ∙ sym (ap (λ t. cond t (y ∷ x ∷ ys) (y ∷ x ∷ ys ++ z ∷ [])) e)
    ]

pub last_lf_dropped : (xs : List ℕ) → 1 ≤ length xs → get_or xs (length xs - 1) 0 ≡ 10 → take (length xs - 1) xs ≡ without_last_lf xs
last_lf_dropped xs l h =
    let ys = take (length xs - 1) xs in
    let z = get_or xs (length xs - 1) 0 in
    sym (ap without_last_lf (last_split xs l) ∙ last_lf_push ys z ∙ ap (λ t. cond t ys (ys ++ z ∷ [])) (eq-eqb z 10 h))

pub last_lf_none : (xs : List ℕ) → 1 ≤ length xs → get_or xs (length xs - 1) 0 ≢ 10 → xs ≡ without_last_lf xs
last_lf_none xs l h =
    let ys = take (length xs - 1) xs in
    let z = get_or xs (length xs - 1) 0 in
    last_split xs l ∙ sym (ap without_last_lf (last_split xs l) ∙ last_lf_push ys z ∙ ap (λ t. cond t ys (ys ++ z ∷ [])) (ne_eqb z 10 h))

-- ---- UTF-8

pub utf8_more : (xs : List ℕ) (i : ℕ) → i < length xs → utf8 (take i xs) ++ encode_utf8 (get_or xs i 0) ≡ utf8 (take (i + 1) xs)
utf8_more xs i l =
    sym (ap utf8 (take_more xs i 0 l) ∙ encodes-append (take i xs) (get_or xs i 0 ∷ []) ∙ ap (λ z. utf8 (take i xs) ++ z) (append-nil (encode_utf8 (get_or xs i 0))))

-- characters from 80 on have two bytes
wide_length : (xs : List ℕ) → ((k : ℕ) → k < length xs → get_or xs k 0 < 256) → length xs + length (filter (λ b. nat_le 128 b) xs) ≡ length (utf8 xs)
wide_length [] h = refl
wide_length (x ∷ xs) h =
    let rest = wide_length xs (λ k l. h (suc k) (omega (arith, l))) in
    let small : x < 256 = h 0 (omega arith) in
    let long = length-encode x in
    let sum = length-append (encode_utf8 x) (utf8 xs) in
    elim (cases_lt x 128) [
      | inl lt ↦
          let t = lt-leb 128 x lt in
          let one : len_utf8 x ≡ 1 = len_utf8_ascii x lt in
          rw t (omega (arith, rest, sum, long, one))
      | inr ge ↦
          let t = le-leb 128 x ge in
          let two : len_utf8 x ≡ 2 = grind (arith, nat_tests, small, ge) in
          rw t (omega (arith, rest, sum, long, two))
    ]

pub utf8_length : (xs : List ℕ) → ((k : ℕ) → k < length xs → get_or xs k 0 < 256) → length xs + count_by (λ b. nat_le 128 b) xs ≡ length (utf8 xs)
utf8_length xs h = ap (λ n. length xs + n) (sym (length-filter (λ b. nat_le 128 b) xs)) ∙ wide_length xs h
