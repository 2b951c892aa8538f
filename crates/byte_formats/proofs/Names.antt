-- The promise of names.
use Rattle.std.proofs.Common.{◌≡◌, ℕ, zero, suc, ◌<◌, ◌≤◌, ◌&&◌, List, [], ◌∷◌, length, take, drop, Option, Some, None, Result, Ok, Err, refl, ap, arith, Bool, true, false, cond, inl, inr, ◌⊎◌, sym, ◌∙◌, take-append-drop, length-take}
use Rattle.std.specs.Prelude.{IsAscii, IsUtf8, nat_le, nat_lt}
use Rattle.std.specs.List.{list_all}
use Rattle.std.specs.Cmp.{first_so, second_so}
use Rattle.std.proofs.lemmas.Bool.Decides.{nat_tests}
use Rattle.std.proofs.lemmas.Str.{IsUtf8-from_ascii}
use Rattle.news_types.specs.Names.{is_name_byte}
use Rattle.byte_formats.specs.Spelling.{IsName}
use Rattle.byte_formats.specs.Format.{◌>>=◌, chain, ranged, scan_at, scanned}
use Rattle.byte_formats.specs.Fields.{name, name_at, name_step}
use Rattle.byte_formats.proofs.Laws.{IsBytes, Lawful, chain_lawful, via}
use Rattle.byte_formats.proofs.Fields.{IsScanned, scanned_lawful, ranged_lawful}
use Rattle.byte_formats.proofs.Texts.{scan_length}

name_byte_cases : (b : Bool) → (cond b (Some true) None ≡ None) ⊎ ((b ≡ true) × (cond b (Some true) None ≡ Some true))
name_byte_cases true = inr (refl, refl)
name_byte_cases false = inl refl

not_none : {A : Type 0} {X : Type 0} (o : Option A) (x : A) → o ≡ None → o ≡ Some x → X
not_none o x e h = absurd cc

both : (a b : Bool) → a ≡ true → b ≡ true → (a && b) ≡ true
both true true e f = refl
both true false e f = f
both false b e f = e

-- the bytes that were seen are all letters of names
pub scan_letters : (n : ℕ) (s : Bool) (x : List ℕ) → IsScanned name_step n s x → list_all is_name_byte x ≡ true
scan_letters zero s [] h = refl
scan_letters zero s (b ∷ x) h = absurd h
scan_letters (suc n) s [] h = absurd h
scan_letters (suc n) s (b ∷ x) h =
    elim (name_byte_cases (is_name_byte b)) [
      | inl bad ↦ not_none (name_step n s b) h.0 bad h.1
      | inr good ↦ both (is_name_byte b) (list_all is_name_byte x) good.0 (scan_letters n h.0 x h.2)
    ]

letters_scan : (n : ℕ) (s : Bool) (x : List ℕ) → length x ≡ n → list_all is_name_byte x ≡ true → IsScanned name_step n s x
letters_scan zero s [] e h = tt
letters_scan zero s (b ∷ x) e h = absurd (omega arith)
letters_scan (suc n) s [] e h = absurd (omega arith)
letters_scan (suc n) s (b ∷ x) e h =
    (true, ap (λ c. cond c (Some true) None) (first_so (is_name_byte b) (list_all is_name_byte x) h), letters_scan n true x (omega arith) (second_so (is_name_byte b) (list_all is_name_byte x) h))

letter_below : (b : ℕ) → is_name_byte b ≡ true → b < 128
letter_below b e = grind (arith, nat_tests, e)

pub letters_bytes : (x : List ℕ) → list_all is_name_byte x ≡ true → IsBytes x
letters_bytes [] h = tt
letters_bytes (b ∷ x) h = let k = letter_below b (first_so (is_name_byte b) (list_all is_name_byte x) h) in (omega arith, letters_bytes x (second_so (is_name_byte b) (list_all is_name_byte x) h))

pub name_from : (x : List ℕ) → 0 < length x → length x ≤ 32 → list_all is_name_byte x ≡ true → IsName x
name_from x lo hi h = grind (arith, nat_tests, h)

pub name_parts : (x : List ℕ) → IsName x → (0 < length x) × (length x ≤ 32) × (list_all is_name_byte x ≡ true)
name_parts x h =
    let front = first_so (nat_lt 0 (length x) && nat_le (length x) 32) (list_all is_name_byte x) h in
    let lo = first_so (nat_lt 0 (length x)) (nat_le (length x) 32) front in
    let hi = second_so (nat_lt 0 (length x)) (nat_le (length x) 32) front in
    (grind (arith, nat_tests, lo), grind (arith, nat_tests, hi), second_so (nat_lt 0 (length x) && nat_le (length x) 32) (list_all is_name_byte x) h)

name_keeps : (n : ℕ) (s : Bool) (b : ℕ) (t : Bool) → Unit {0} → name_step n s b ≡ Some t → Unit {0}
name_keeps n s b t i e = tt

name_filler : (n : ℕ) (s : Bool) → Unit {0} → (b : ℕ) × (b < 256) × (t : Bool) × (name_step n s b ≡ Some t)
name_filler n s i = (97, omega arith, true, refl)

letters_lawful : (n : ℕ) → Lawful (scanned name_step true n) (λ x. IsScanned name_step n true x × IsBytes x)
letters_lawful n = scanned_lawful name_step (λ _ _. Unit {0}) name_keeps name_filler n true tt

read_again : (r : Result (List ℕ × List ℕ) ℕ) → r ≡ (r >>= λ x. Ok (x.0, x.1))
read_again (Ok x) = refl
read_again (Err e) = refl

pub name_lawful : Lawful name IsName
unfolding name_at
name_lawful =
    let F = scanned name_step true in
    let Q : ℕ → List ℕ → Type 0 = λ n x. IsScanned name_step n true x × IsBytes x in
    via (chain (ranged 1 32) F length) (λ x. ((1 ≤ length x) × (length x ≤ 32)) × Q (length x) x) name IsName (λ x. x)
    (chain_lawful (ranged 1 32) (λ n. (1 ≤ n) × (n ≤ 32)) F Q length (ranged_lawful 1 32 (omega arith)) (λ n h. letters_lawful n) (λ n x h q. scan_length name_step n true x q.0))
    (λ bytes. read_again (name_at bytes)) (λ x h. (name_from x (omega (arith, h.0.0)) h.0.1 (scan_letters (length x) true x h.1.0), refl))
    (λ x h. let p = name_parts x h in (x, ((omega (arith, p.0), p.1), (letters_scan (length x) true x refl p.2, letters_bytes x p.2)), refl))

-- what was found without a fault is a name
pub name_judged : (n : ℕ) (bytes : List ℕ) → IsBytes bytes → scan_at name_step n true bytes ≡ Ok (take n bytes, drop n bytes) → 0 < n → n ≤ 32 → IsName (take n bytes)
name_judged n bytes ib e lo hi =
    let s = ((letters_lawful n).takes bytes (take n bytes) (drop n bytes) ib e).0.0 in
    let len = scan_length name_step n true (take n bytes) s in
    name_from (take n bytes) (omega arith) (omega arith) (scan_letters n true (take n bytes) s)

-- and what is a name is found without a fault
pub name_scans : (n : ℕ) (bytes : List ℕ) → n ≤ length bytes → IsName (take n bytes) → scan_at name_step n true bytes ≡ Ok (take n bytes, drop n bytes)
name_scans n bytes long name =
    let letters = (name_parts (take n bytes) name).2 in
    ap (scan_at name_step n true) (sym (take-append-drop n bytes))
    ∙ (letters_lawful n).again (take n bytes) (drop n bytes) (letters_scan n true (take n bytes) (omega (arith, length-take n bytes, long)) letters, letters_bytes (take n bytes) letters)

-- a name is a text
all_small : (text : List ℕ) → list_all is_name_byte text ≡ true → IsAscii text
all_small [] e i = omega arith
all_small (b ∷ text) e zero = letter_below b (first_so (is_name_byte b) (list_all is_name_byte text) e)
all_small (b ∷ text) e (suc i) = all_small text (second_so (is_name_byte b) (list_all is_name_byte text) e) i

pub name_text : (text : List ℕ) → IsName text → IsUtf8 text
name_text text form = IsUtf8-from_ascii text (all_small text (name_parts text form).2)
