-- Two messages of one name have the same source, number and mark.
use Rattle.std.proofs.Common.{◌≡◌, ℕ, zero, suc, ◌+◌, ◌-◌, ◌≤◌, Bool, true, false, cond, ◌&&◌, ◌||◌, List, [], ◌∷◌, ◌++◌, length, length-append, append_assoc, take, drop, reverse, refl, sym, ap, subst, ◌∙◌, arith, leb}
use Rattle.std.specs.Char.{encode_utf8, is_ascii_alphabetic, is_ascii_digit}
use Rattle.std.specs.List.{list_all, prefix_len}
use Rattle.std.proofs.lemmas.Bool.{leb-true}
use Rattle.std.proofs.lemmas.Bool.Decides.{nat_tests}
use Rattle.std.proofs.lemmas.List.{reverse-append, length-reverse, take-append-drop}
use Rattle.std.proofs.Math.Seq.{take-append_seam, drop-append_seam}
use Rattle.std.proofs.lemmas.Str.{encodes_same}
use Rattle.text7901.specs.Fields.{before, behind_byte, utf8, fitting}
use Rattle.text7901.proofs.Parts.{IsWithout, before_first, behind_first}
use Rattle.agency_wires.specs.Parts.{word, behind_word, is_within}
use Rattle.agency_wires.specs.Header.{is_letter_or_digit, digits_at_end, letters_part, digits_part, has_width, begins_with_letter, is_joined, is_parted, has_header, source, number}
use Rattle.agency_wires.specs.Identity.{dated, named, identity}

first_part : (s t : Bool) → (s && t) ≡ true → s ≡ true
first_part true t e = refl
first_part false t e = cc

second_part : (s t : Bool) → (s && t) ≡ true → t ≡ true
second_part true t e = e
second_part false t e = cc

both_true : (s t : Bool) → s ≡ true → t ≡ true → (s && t) ≡ true
both_true s t e f = cc

-- ---- all of some characters

all_append : (p : ℕ → Bool) (xs ys : List ℕ) → list_all p xs ≡ true → list_all p ys ≡ true → list_all p (xs ++ ys) ≡ true
all_append p [] ys e f = f
all_append p (x ∷ xs) ys e f = both_true (p x) (list_all p (xs ++ ys)) (first_part (p x) (list_all p xs) e) (all_append p xs ys (second_part (p x) (list_all p xs) e) f)

all_reverse : (p : ℕ → Bool) (xs : List ℕ) → list_all p xs ≡ true → list_all p (reverse xs) ≡ true
all_reverse p [] e = refl
all_reverse p (x ∷ xs) e =
    let one : list_all p (x ∷ []) ≡ true = both_true (p x) true (first_part (p x) (list_all p xs) e) refl in
    ap (list_all p) (reverse-append (x ∷ []) xs) ∙ all_append p (reverse xs) (x ∷ []) (all_reverse p xs (second_part (p x) (list_all p xs) e)) one

without_by : (p : ℕ → Bool) (x : ℕ) (xs : List ℕ) → p x ≡ false → list_all p xs ≡ true → IsWithout x xs
without_by p x [] n e = tt
without_by p x (y ∷ xs) n e =
    let yes = first_part (p y) (list_all p xs) e in
    (λ s. differ (ap p s ∙ n) yes, without_by p x xs n (second_part (p y) (list_all p xs) e))
  where
    differ : {t : Bool} → t ≡ false → t ≡ true → ⊥
    differ a b = cc

without_append : (x : ℕ) (xs ys : List ℕ) → IsWithout x xs → IsWithout x ys → IsWithout x (xs ++ ys)
without_append x [] ys h k = k
without_append x (y ∷ xs) ys h k = (h.0, without_append x xs ys h.1 k)

-- ---- the digits at the end of a word

-- the first of these does not pass
abbrev IsStop : (ℕ → Bool) → List ℕ → Type 0
IsStop p [] = Unit {0}
IsStop p (y ∷ ys) = p y ≡ false

stop_prefix : (p : ℕ → Bool) (n : ℕ) (ys : List ℕ) → IsStop p ys → prefix_len p (take n ys) ≡ 0
stop_prefix p zero ys h = refl
stop_prefix p (suc n) [] h = refl
stop_prefix p (suc n) (y ∷ ys) h = ap (λ t. cond t (1 + prefix_len p (take n ys)) 0) h

run_prefix : (p : ℕ → Bool) (n : ℕ) (xs ys : List ℕ) → list_all p xs ≡ true → length xs ≤ n → IsStop p ys → prefix_len p (take n (xs ++ ys)) ≡ length xs
run_prefix p n [] ys e l h = stop_prefix p n ys h
run_prefix p zero (x ∷ xs) ys e l h = absurd (omega (arith, l))
run_prefix p (suc n) (x ∷ xs) ys e l h =
    let rest = run_prefix p n xs ys (second_part (p x) (list_all p xs) e) (omega (arith, l)) h in
    ap (λ t. cond t (1 + prefix_len p (take n (xs ++ ys))) 0) (first_part (p x) (list_all p xs) e) ∙ omega (arith, rest)

no_digit : (c : ℕ) → is_ascii_alphabetic c ≡ true → is_ascii_digit c ≡ false
no_digit c e = grind (arith, nat_tests, e)

letters_stop : (xs : List ℕ) → list_all is_ascii_alphabetic xs ≡ true → IsStop is_ascii_digit xs
letters_stop [] e = tt
letters_stop (x ∷ xs) e = no_digit x (first_part (is_ascii_alphabetic x) (list_all is_ascii_alphabetic xs) e)

digits_of : (xs ys : List ℕ) → list_all is_ascii_alphabetic xs ≡ true → list_all is_ascii_digit ys ≡ true → length ys ≤ 16 → digits_at_end (xs ++ ys) ≡ length ys
digits_of xs ys e f l =
    ap (λ z. prefix_len is_ascii_digit (take 16 z)) (reverse-append xs ys)
    ∙ run_prefix is_ascii_digit 16 (reverse ys) (reverse xs) (all_reverse is_ascii_digit ys f) (omega (arith, l, length-reverse ys)) (letters_stop (reverse xs) (all_reverse is_ascii_alphabetic xs e))
    ∙ length-reverse ys

-- ---- source and number are told by what they are together

pub record IsSplit (s n : List ℕ) : Type 0 where
  pub front : letters_part (s ++ n) ≡ s
  pub back : digits_part (s ++ n) ≡ n
  pub without : IsWithout 64 (s ++ n)

joined_split : (w : List ℕ) → is_joined w ≡ true → IsSplit (letters_part w) (digits_part w)
joined_split w e =
    let whole = take-append-drop (length w - digits_at_end w) w in
    let letters : list_all is_letter_or_digit w ≡ true = first_part (list_all is_letter_or_digit w) (begins_with_letter w) (first_part (list_all is_letter_or_digit w && begins_with_letter w) (has_width (letters_part w)) (first_part (list_all is_letter_or_digit w && begins_with_letter w && has_width (letters_part w)) (has_width (digits_part w)) e)) in
    record {
      front = ap letters_part whole;
      back = ap digits_part whole;
      without = subst (IsWithout 64) (sym whole) (without_by is_letter_or_digit 64 w refl letters);
    }

parted_split : (s n : List ℕ) → is_parted s n ≡ true → IsSplit s n
parted_split s n e =
    let front = first_part (list_all is_ascii_alphabetic s && has_width s && list_all is_ascii_digit n) (has_width n) e in
    let wide = second_part (list_all is_ascii_alphabetic s && has_width s && list_all is_ascii_digit n) (has_width n) e in
    let digits = second_part (list_all is_ascii_alphabetic s && has_width s) (list_all is_ascii_digit n) front in
    let letters : list_all is_ascii_alphabetic s ≡ true = first_part (list_all is_ascii_alphabetic s) (has_width s) (first_part (list_all is_ascii_alphabetic s && has_width s) (list_all is_ascii_digit n) front) in
    let few = leb-true (length n) 16 (second_part (leb 1 (length n)) (leb (length n) 16) wide) in
    let size : length (s ++ n) - digits_at_end (s ++ n) ≡ length s = omega (arith, digits_of s n letters digits few, length-append s n) in
    record {
      front = ap (λ k. take k (s ++ n)) size ∙ take-append_seam s n;
      back = ap (λ k. drop k (s ++ n)) size ∙ drop-append_seam s n;
      without = without_append 64 s n (without_by is_ascii_alphabetic 64 s refl letters) (without_by is_ascii_digit 64 n refl digits);
    }

split_by : (t : Bool) (a b c d : List ℕ) → (t ≡ true → IsSplit a c) → (t ≡ false → IsSplit b d) → IsSplit (cond t a b) (cond t c d)
split_by true a b c d f g = f refl
split_by false a b c d f g = g refl

header_split : (line : List ℕ) → has_header line ≡ true → IsSplit (source line) (number line)
unfolding has_header source number
header_split line e =
    let w = word line in
    let second = word (behind_word line) in
    split_by (is_joined w) (letters_part w) w (digits_part w) second (λ j. joined_split w j) (λ j. parted_split w second (sym (ap (λ t. t || is_parted w second) j) ∙ e))

-- ---- the law

fitting_all : (n : ℕ) (xs : List ℕ) → is_within n xs ≡ true → fitting n xs ≡ utf8 xs
fitting_all n [] e = refl
fitting_all n (c ∷ xs) e =
    let yes = first_part (leb (length (encode_utf8 c)) n) (is_within (n - length (encode_utf8 c)) xs) e in
    let rest = fitting_all (n - length (encode_utf8 c)) xs (second_part (leb (length (encode_utf8 c)) n) (is_within (n - length (encode_utf8 c)) xs) e) in
    ap (λ t. cond t (encode_utf8 c ++ fitting (n - length (encode_utf8 c)) xs) []) yes ∙ ap (λ z. encode_utf8 c ++ z) rest

named_is : (line info : List ℕ) (day : ℕ) → named line info day ≡ (source line ++ number line) ++ 64 ∷ dated info day
unfolding named
named_is line info day = append_assoc (source line ++ number line) (64 ∷ []) (dated info day)

alike : (s n d t m e : List ℕ) → IsSplit s n → IsSplit t m → (s ++ n) ++ 64 ∷ d ≡ (t ++ m) ++ 64 ∷ e → (s ≡ t) × (n ≡ m) × (d ≡ e)
alike s n d t m e h k same =
    let front = sym (before_first 64 (s ++ n) d h.without) ∙ ap (before 64) same ∙ before_first 64 (t ++ m) e k.without in (
      sym h.front ∙ ap letters_part front ∙ k.front,
      sym h.back ∙ ap digits_part front ∙ k.back,
      sym (behind_first 64 (s ++ n) d h.without) ∙ ap (behind_byte 64) same ∙ behind_first 64 (t ++ m) e k.without,
    )

pub identity_tells : (line info : List ℕ) (day : ℕ) (line' info' : List ℕ) (day' : ℕ) → has_header line ≡ true → has_header line' ≡ true
    → is_within 256 (named line info day) ≡ true → is_within 256 (named line' info' day') ≡ true → identity line info day ≡ identity line' info' day'
    → (source line ≡ source line') × (number line ≡ number line') × (dated info day ≡ dated info' day')
unfolding identity
identity_tells line info day line' info' day' h k f g e =
    let bytes = sym (fitting_all 256 (named line info day) f) ∙ e ∙ fitting_all 256 (named line' info' day') g in
    let same = encodes_same (named line info day) (named line' info' day') bytes in
    alike (source line) (number line) (dated info day) (source line') (number line') (dated info' day') (header_split line h) (header_split line' k)
    (sym (named_is line info day) ∙ same ∙ named_is line' info' day')
