-- What the bytes of records and a gate are read as.
use Rattle.std.proofs.Common.{◌≡◌, ◌≢◌, ℕ, zero, suc, ◌+◌, ◌^◌, ◌≤◌, ◌<◌, List, [], ◌∷◌, ◌++◌, length, take, drop, map, true, false, Some, eqb, ◌&&◌, leb, ltb, refl, sym, ◌∙◌, ap, arith, append_assoc, length-append}
use Rattle.std.specs.Int.{w32, to_be_bytes, from_be_bytes}
use Rattle.std.proofs.lemmas.Nat.{from_be_bytes-to_be_bytes_4}
use Rattle.std.proofs.lemmas.List.{append-nil, take_at, drop_at, drop-drop}
use Rattle.std.proofs.lemmas.Bool.Decides.{nat_tests}
use Rattle.news_journal.specs.Log.{Reading, Holding, Broken, with_first, span, has_record, reading, payloads_of, starts_with, opened, records, AllFit}

pub length-be : (n : ℕ) → length (to_be_bytes w32 n) ≡ 4
length-be n = refl

pub span_is : (p rest : List ℕ) → length p ≤ 4194304 → span (to_be_bytes w32 (length p) ++ (p ++ rest)) ≡ length p
unfolding span
span_is p rest fits = ap (from_be_bytes w32) (take_at (to_be_bytes w32 (length p)) (p ++ rest) 4 (length-be (length p))) ∙ from_be_bytes-to_be_bytes_4 (length p) (omega arith)

behind_length : (p rest : List ℕ) → drop 4 (to_be_bytes w32 (length p) ++ (p ++ rest)) ≡ p ++ rest
behind_length p rest = refl

length_all : (p rest : List ℕ) → length (to_be_bytes w32 (length p) ++ (p ++ rest)) ≡ 4 + (length p + length rest)
length_all p rest = omega (arith, length-append (to_be_bytes w32 (length p)) (p ++ rest), length-append p rest, length-be (length p))

has_record_is : (at : ℕ) (p rest : List ℕ) → length p ≤ 4194304 → 0 < length rest → at + 5 + length p < 2 ^ 30 → has_record at (to_be_bytes w32 (length p) ++ (p ++ rest)) ≡ true
unfolding has_record
has_record_is at p rest fits more small =
    let is = span_is p rest fits in
    let long = length_all p rest in
    all_tests (span (to_be_bytes w32 (length p) ++ (p ++ rest))) (length (to_be_bytes w32 (length p) ++ (p ++ rest))) at (omega arith) (omega arith) (omega arith) (omega arith)
  where
    all_tests : (s l at : ℕ) → 4 ≤ l → s ≤ 4194304 → 4 + s < l → at + 5 + s < 2 ^ 30 → (leb 4 l && (leb s 4194304 && (ltb (4 + s) l && ltb (at + 5 + s) (2 ^ 30)))) ≡ true
    all_tests s l at a b c d = grind (arith, nat_tests)

step : (n at s : ℕ) (X p rest : List ℕ) → has_record at X ≡ true → span X ≡ s → take s (drop 4 X) ≡ p → drop (4 + s) X ≡ rest → reading (suc n) at (1 ∷ X) ≡ with_first (at, p) (reading n (at + 5 + s) rest)
unfolding reading
step n at s X p rest has sp tk dr = rw (has, sp, tk, dr) refl

pub one_record : (n at : ℕ) (p rest : List ℕ) → length p ≤ 4194304 → 0 < length rest → at + 5 + length p < 2 ^ 30 → reading (suc n) at (1 ∷ to_be_bytes w32 (length p) ++ (p ++ rest)) ≡ with_first (at, p) (reading n (at + 5 + length p) rest)
one_record n at p rest fits more small =
    step n at (length p) (to_be_bytes w32 (length p) ++ (p ++ rest)) p rest (has_record_is at p rest fits more small) (span_is p rest fits)
    (take_at p rest (length p) refl)
    (sym (drop-drop (length p) 4 (to_be_bytes w32 (length p) ++ (p ++ rest))) ∙ drop_at p rest (length p) refl)

pub closed : (n at g : ℕ) (rest : List ℕ) → g ≢ 1 → reading (suc n) at (g ∷ rest) ≡ Holding []
unfolding reading
closed n at g rest shut = let no : eqb g 1 ≡ false = grind (arith, nat_tests) in rw no refl

with_first_payloads : (at : ℕ) (p : List ℕ) (r : Reading) (ps : List (List ℕ)) → payloads_of r ≡ Some ps → payloads_of (with_first (at, p) r) ≡ Some (p ∷ ps)
with_first_payloads at p (Holding rs) ps is = let e : map (λ (r : ℕ × List ℕ). r.1) rs ≡ ps = cc in ap (λ (l : List (List ℕ)). Some (p ∷ l)) e
with_first_payloads at p (Broken a f) ps is = cc

pub records_read : (n at : ℕ) (ps : List (List ℕ)) (g : ℕ) (rest : List ℕ) → AllFit ps → length (records ps) < n → at + length (records ps) < 2 ^ 30 → g ≢ 1 → payloads_of (reading n at (records ps ++ g ∷ rest)) ≡ Some ps
records_read zero at ps g rest fit fuel small shut = absurd (omega arith)
records_read (suc n) at [] g rest fit fuel small shut = ap payloads_of (closed n at g rest shut)
records_read (suc n) at (p ∷ ps) g rest fit fuel small shut =
    let long = length_all p (records ps) in
    let tail_long = length-append (records ps) (g ∷ rest) in
    let split : records (p ∷ ps) ++ g ∷ rest ≡ 1 ∷ to_be_bytes w32 (length p) ++ (p ++ (records ps ++ g ∷ rest)) =
    ap (λ (l : List ℕ). 1 ∷ to_be_bytes w32 (length p) ++ l) (append_assoc p (records ps) (g ∷ rest)) in
    ap (λ (l : List ℕ). payloads_of (reading (suc n) at l)) split
    ∙ ap payloads_of (one_record n at p (records ps ++ g ∷ rest) fit.0 (omega arith) (omega arith))
    ∙ with_first_payloads at p (reading n (at + 5 + length p) (records ps ++ g ∷ rest)) ps (records_read n (at + 5 + length p) ps g rest fit.1 (omega arith) (omega arith) shut)

starts : (head rest : List ℕ) → starts_with head (head ++ rest) ≡ true
starts [] rest = refl
starts (x ∷ xs) rest = let ih = starts xs rest in grind (arith, nat_tests)

pub opened_at : (head rest : List ℕ) → opened head (head ++ rest) ≡ payloads_of (reading (length (head ++ rest)) (length head) rest)
unfolding opened
opened_at head rest = rw (starts head rest, drop_at head rest (length head) refl) refl

-- a closed gate ends the records, whatever stands behind it
pub opened_closed : (head : List ℕ) (ps : List (List ℕ)) (g : ℕ) (rest : List ℕ) → AllFit ps → length (head ++ records ps) < 2 ^ 30 → g ≢ 1 → opened head ((head ++ records ps) ++ g ∷ rest) ≡ Some ps
opened_closed head ps g rest fit small shut =
    let a = length-append head (records ps) in
    let b = length-append head (records ps ++ g ∷ rest) in
    let c = length-append (records ps) (g ∷ rest) in
    ap (opened head) (append_assoc head (records ps) (g ∷ rest))
    ∙ opened_at head (records ps ++ g ∷ rest)
    ∙ records_read (length (head ++ (records ps ++ g ∷ rest))) (length head) ps g rest fit (omega arith) (omega arith) shut

pub AllFit-push : (ps : List (List ℕ)) (p : List ℕ) → AllFit ps → length p ≤ 4194304 → AllFit (ps ++ p ∷ [])
AllFit-push [] p fit fits = (fits, tt)
AllFit-push (q ∷ ps) p fit fits = (fit.0, AllFit-push ps p fit.1 fits)

pub records_push : (ps : List (List ℕ)) (p : List ℕ) → records (ps ++ p ∷ []) ≡ records ps ++ (1 ∷ to_be_bytes w32 (length p) ++ p)
records_push [] p = ap (λ (l : List ℕ). 1 ∷ to_be_bytes w32 (length p) ++ l) (append-nil p)
records_push (q ∷ ps) p = ap (λ (l : List ℕ). 1 ∷ to_be_bytes w32 (length q) ++ (q ++ l)) (records_push ps p) ∙ ap (λ (l : List ℕ). 1 ∷ to_be_bytes w32 (length q) ++ l) (sym (append_assoc q (records ps) (1 ∷ to_be_bytes w32 (length p) ++ p)))

-- the file with a whole record behind a gate
abbrev pub record_then : List ℕ → List ℕ → List ℕ
record_then p tail = to_be_bytes w32 (length p) ++ (p ++ 0 ∷ tail)

pub behind_open : (head : List ℕ) (ps : List (List ℕ)) (p tail : List ℕ) → (head ++ records ps) ++ 1 ∷ record_then p tail ≡ (head ++ records (ps ++ p ∷ [])) ++ 0 ∷ tail
behind_open head ps p tail =
    append_assoc head (records ps) (1 ∷ record_then p tail)
    ∙ ap (λ (l : List ℕ). head ++ l) (sym (append_assoc (records ps) (1 ∷ to_be_bytes w32 (length p) ++ p) (0 ∷ tail)) ∙ ap (λ (l : List ℕ). l ++ 0 ∷ tail) (sym (records_push ps p)))
    ∙ sym (append_assoc head (records (ps ++ p ∷ [])) (0 ∷ tail))

pub length-pushed : (head : List ℕ) (ps : List (List ℕ)) (p : List ℕ) → length (head ++ records (ps ++ p ∷ [])) ≡ length (head ++ records ps) + (5 + length p)
length-pushed head ps p = omega (arith, length-append head (records ps), length-append head (records (ps ++ p ∷ [])), ap length (records_push ps p), length-append (records ps) (1 ∷ to_be_bytes w32 (length p) ++ p), length-append (to_be_bytes w32 (length p)) p, length-be (length p))

-- with the gate open it counts
pub opened_behind : (head : List ℕ) (ps : List (List ℕ)) (p tail : List ℕ) → AllFit ps → length p ≤ 4194304 → length (head ++ records ps) + 5 + length p < 2 ^ 30 → opened head ((head ++ records ps) ++ 1 ∷ record_then p tail) ≡ Some (ps ++ p ∷ [])
opened_behind head ps p tail fit fits small =
    ap (opened head) (behind_open head ps p tail)
    ∙ opened_closed head (ps ++ p ∷ []) 0 tail (AllFit-push ps p fit fits) (omega (arith, length-pushed head ps p)) (omega arith)
