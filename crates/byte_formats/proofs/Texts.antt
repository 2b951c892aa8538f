-- The promise of texts.
use Rattle.std.proofs.Common.{◌≡◌, ℕ, zero, suc, ◌<◌, ◌≤◌, ◌+◌, ◌-◌, ◌/◌, ◌*◌, ◌^◌, List, [], ◌∷◌, ◌++◌, length, take, drop, Option, Some, None, Result, Ok, Err, refl, sym, ap, subst, ◌∙◌, arith, Bool, true, false, cond, inl, inr, ◌⊎◌, IsUtf8, nat_lt, if◌then◌else◌, take-append-drop, length-take}
use Rattle.std.specs.Int.{w32}
use Rattle.std.proofs.lemmas.Bool.Decides.{nat_tests}
use Rattle.std.proofs.lemmas.Bool.{cases_lt, cases_eq, and_parts, eq-eqb, ne_eqb, le-ltb, lt-ltb}
use Rattle.std.proofs.lemmas.Str.{IsUtf8-append, IsUtf8-nil, IsUtf8-encode, encode_ascii}
use lib.Utf8.{scalar, scalars, encode, encodes, scalar_cases, low_scalar, next}
use Rattle.byte_formats.specs.declared.due.Due.{Due}
use Rattle.byte_formats.specs.Spelling.{IsText}
use Rattle.byte_formats.specs.Format.{◌>>=◌, chain, upto, scan_at}
use Rattle.byte_formats.specs.Fields.{text, text_at, utf8, utf8_step, due, due_after, lead, room_for, least_after, most_after}
use Rattle.byte_formats.proofs.Laws.{IsBytes, Lawful, chain_lawful, via}
use Rattle.byte_formats.proofs.Fields.{IsScanned, scanned_lawful}
use Rattle.byte_formats.proofs.Numbers.{wide32, upto_lawful}

some_is : {A : Type 0} (x y : A) → Some x ≡ Some y → x ≡ y
some_is x y e = cc

pub scan_length : {S : Type 0} (step : ℕ → S → ℕ → Option S) (n : ℕ) (s : S) (x : List ℕ) → IsScanned step n s x → length x ≡ n
scan_length step zero s [] h = refl
scan_length step zero s (b ∷ x) h = absurd h
scan_length step (suc n) s [] h = absurd h
scan_length step (suc n) s (b ∷ x) h = ap suc (scan_length step n h.0 x h.2)

not_none : {A : Type 0} {X : Type 0} (o : Option A) (x : A) → o ≡ None → o ≡ Some x → X
not_none o x e h = absurd cc

read_again : (r : Result (List ℕ × List ℕ) ℕ) → r ≡ (r >>= λ x. Ok (x.0, x.1))
read_again (Ok x) = refl
read_again (Err e) = refl

-- ---- texts

abbrev pub start : Due
start = due 0 128 191

abbrev Room : ℕ → Due → Type 0
Room n d = (d.left ≤ n) × (d.least < 256) × (d.least ≤ d.most)

room_left : (n : ℕ) (o : Option Due) (t : Due) → room_for n o ≡ Some t → (o ≡ Some t) × (t.left ≤ n)
room_left n None t e = absurd cc
room_left n (Some d) t e =
    elim (cases_lt n d.left) [
      | inl lt ↦ not_none (room_for n (Some d)) t (rw (lt-ltb _ _ lt) refl) e
      | inr le ↦ let same : Some d ≡ Some t = sym (rw (le-ltb _ _ le) refl) ∙ e in (same, subst (λ (u : Due). u.left ≤ n) (some_is d t same) le)
    ]

least_bounds : (b : ℕ) → (due 0 (least_after b) (most_after b)).least < 256
least_bounds b = grind (arith, nat_tests)

least_most : (b : ℕ) → least_after b ≤ most_after b
least_most b = grind (arith, nat_tests)

abbrev InRange : Due → Type 0
InRange d = (d.least < 256) × (d.least ≤ d.most)

abbrev IfDue : Option Due → Type 0
IfDue None = Unit {0}
IfDue (Some d) = InRange d

if_due : (b : Bool) (x y : Option Due) → IfDue x → IfDue y → IfDue (cond b x y)
if_due true x y h k = h
if_due false x y h k = k

abbrev leads_4 : ℕ → Option Due
leads_4 b = if nat_lt b 245 then Some (due 3 (least_after b) (most_after b)) else None

abbrev leads_3 : ℕ → Option Due
leads_3 b = if nat_lt b 240 then Some (due 2 (least_after b) (most_after b)) else leads_4 b

abbrev leads_2 : ℕ → Option Due
leads_2 b = if nat_lt b 224 then Some (due 1 128 191) else leads_3 b

abbrev lead_none : ℕ → Option Due
lead_none b = if nat_lt b 194 then None else leads_2 b

lead_range : (b : ℕ) → IfDue (lead b)
lead_range b =
    let plain : InRange start = (omega arith, omega arith) in
    let led : InRange (due 0 (least_after b) (most_after b)) = (least_bounds b, least_most b) in
    let four = if_due (nat_lt b 245) (Some (due 3 (least_after b) (most_after b))) None led tt in
    let three = if_due (nat_lt b 240) (Some (due 2 (least_after b) (most_after b))) (leads_4 b) led four in
    let two = if_due (nat_lt b 224) (Some (due 1 128 191)) (leads_3 b) plain three in
    if_due (nat_lt b 128) (Some start) (lead_none b) plain (if_due (nat_lt b 194) None (leads_2 b) tt two)

follow_range : (left least most b : ℕ) → IfDue (due_after (due (suc left) least most) b)
follow_range left least most b =
    let plain : InRange start = (omega arith, omega arith) in
    if_due (nat_lt b least) None (if nat_lt most b then None else Some (due left 128 191)) tt (if_due (nat_lt most b) None (Some (due left 128 191)) tt plain)

after_range : (left least most b : ℕ) → IfDue (due_after (due left least most) b)
after_range zero least most b = lead_range b
after_range (suc left) least most b = follow_range left least most b

utf8_keeps : (n : ℕ) (d : Due) (b : ℕ) (t : Due) → Room (suc n) d → utf8_step n d b ≡ Some t → Room n t
utf8_keeps n d b t r e =
    let h = room_left n (due_after d b) t e in
    let k = subst IfDue h.0 (after_range d.left d.least d.most b) in
    (h.1, k.0, k.1)

fills : (left least most n : ℕ) → Room (suc n) (due left least most) → (b : ℕ) × (b < 256) × (t : Due) × (utf8_step n (due left least most) b ≡ Some t)
fills zero least most n r = (97, omega arith, start, rw (le-ltb n 0 (omega arith)) refl)
fills (suc left) least most n r =
    (least, r.1, due left 128 191, rw (le-ltb least least (omega arith), le-ltb most least r.2, le-ltb n left (omega (arith, r.0))) refl)

utf8_filler : (n : ℕ) (d : Due) → Room (suc n) d → (b : ℕ) × (b < 256) × (t : Due) × (utf8_step n d b ≡ Some t)
utf8_filler n d r = fills d.left d.least d.most n r

-- ---- what the steps allow is UTF-8, and UTF-8 alone

lead_1 : (b : ℕ) → b < 128 → lead b ≡ Some start
lead_1 b h = rw (lt-ltb b 128 h) refl

lead_2 : (b : ℕ) → 194 ≤ b → b < 224 → lead b ≡ Some (due 1 128 191)
lead_2 b l h = rw (le-ltb b 128 (omega arith), le-ltb b 194 l, lt-ltb b 224 h) refl

lead_3 : (b : ℕ) → 224 ≤ b → b < 240 → lead b ≡ Some (due 2 (least_after b) (most_after b))
lead_3 b l h = rw (le-ltb b 128 (omega arith), le-ltb b 194 (omega arith), le-ltb b 224 l, lt-ltb b 240 h) refl

lead_4 : (b : ℕ) → 240 ≤ b → b < 245 → lead b ≡ Some (due 3 (least_after b) (most_after b))
lead_4 b l h = rw (le-ltb b 128 (omega arith), le-ltb b 194 (omega arith), le-ltb b 224 (omega arith), le-ltb b 240 l, lt-ltb b 245 h) refl

lead_low : (b : ℕ) → 128 ≤ b → b < 194 → lead b ≡ None
lead_low b l h = rw (le-ltb b 128 l, lt-ltb b 194 h) refl

lead_high : (b : ℕ) → 245 ≤ b → lead b ≡ None
lead_high b l = rw (le-ltb b 128 (omega arith), le-ltb b 194 (omega arith), le-ltb b 224 (omega arith), le-ltb b 240 (omega arith), le-ltb b 245 l) refl

lead_step : (n b left least most : ℕ) → lead b ≡ Some (due left least most) → left ≤ n → utf8_step n start b ≡ Some (due left least most)
lead_step n b left least most e le = ap (room_for n) e ∙ rw (le-ltb n left le) refl

next_step : (n left least most b : ℕ) → least ≤ b → b ≤ most → left ≤ n → utf8_step n (due (suc left) least most) b ≡ Some (due left 128 191)
next_step n left least most b l h le = rw (le-ltb b least l, le-ltb most b h, le-ltb n left le) refl

abbrev Scanned : List ℕ → Type 0
Scanned x = IsScanned utf8_step (length x) start x × IsBytes x

scanned_1 : (a : ℕ) (x : List ℕ) → a < 128 → Scanned x → Scanned (a ∷ x)
scanned_1 a x h s = ((start, lead_step (length x) a 0 128 191 (lead_1 a h) (omega arith), s.0), (omega arith, s.1))

scanned_2 : (a b : ℕ) (x : List ℕ) → 194 ≤ a → a < 224 → 128 ≤ b → b < 192 → Scanned x → Scanned (a ∷ b ∷ x)
scanned_2 a b x l h bl bh s =
    ((due 1 128 191, lead_step (suc (length x)) a 1 128 191 (lead_2 a l h) (omega arith), (start, next_step (length x) 0 128 191 b bl (omega arith) (omega arith), s.0)), (omega arith, (omega arith, s.1)))

scanned_3 : (a b c : ℕ) (x : List ℕ) → 224 ≤ a → a < 240 → least_after a ≤ b → b ≤ most_after a → b < 192 → 128 ≤ c → c < 192 → Scanned x → Scanned (a ∷ b ∷ c ∷ x)
scanned_3 a b c x l h bl bh bs cl ch s = (
  (
    due 2 (least_after a) (most_after a),
    lead_step (suc (suc (length x))) a 2 (least_after a) (most_after a) (lead_3 a l h) (omega arith),
    (due 1 128 191, next_step (suc (length x)) 1 (least_after a) (most_after a) b bl bh (omega arith), (start, next_step (length x) 0 128 191 c cl (omega arith) (omega arith), s.0)),
  ),
  (omega arith, (omega arith, (omega arith, s.1))),
)

scanned_4 : (a b c d : ℕ) (x : List ℕ) → 240 ≤ a → a < 245 → least_after a ≤ b → b ≤ most_after a → b < 192 → 128 ≤ c → c < 192 → 128 ≤ d → d < 192 → Scanned x → Scanned (a ∷ b ∷ c ∷ d ∷ x)
scanned_4 a b c d x l h bl bh bs cl ch dl dh s = (
  (
    due 3 (least_after a) (most_after a),
    lead_step (suc (suc (suc (length x)))) a 3 (least_after a) (most_after a) (lead_4 a l h) (omega arith),
    (
      due 2 128 191,
      next_step (suc (suc (length x))) 2 (least_after a) (most_after a) b bl bh (omega arith),
      (due 1 128 191, next_step (suc (length x)) 1 128 191 c cl (omega arith) (omega arith), (start, next_step (length x) 0 128 191 d dl (omega arith) (omega arith), s.0)),
    ),
  ),
  (omega arith, (omega arith, (omega arith, (omega arith, s.1)))),
)

encode_2 : (c : ℕ) → 128 ≤ c → c < 2048 → encode c ≡ (192 + c / 64) ∷ next c ∷ []
unfolding encode
encode_2 c l h = rw (le-ltb c 128 l, lt-ltb c 2048 h) refl

encode_3 : (c : ℕ) → 2048 ≤ c → c < 65536 → encode c ≡ (224 + c / 4096) ∷ next (c / 64) ∷ next c ∷ []
unfolding encode
encode_3 c l h = rw (le-ltb c 128 (omega arith), le-ltb c 2048 l, lt-ltb c 65536 h) refl

encode_4 : (c : ℕ) → 65536 ≤ c → encode c ≡ (240 + c / 262144) ∷ next (c / 4096) ∷ next (c / 64) ∷ next c ∷ []
unfolding encode
encode_4 c l = rw (le-ltb c 128 (omega arith), le-ltb c 2048 (omega arith), le-ltb c 65536 l) refl

abbrev Ranges : ℕ → Type 0
Ranges c = (c < 55296) ⊎ ((57344 ≤ c) × (c < 1114112))

ranges_below : (c : ℕ) → Ranges c → c < 1114112
ranges_below c (inl h) = omega arith
ranges_below c (inr h) = h.1

-- no surrogate
three_high : (c : ℕ) → Ranges c → 224 + c / 4096 ≡ 237 → next (c / 64) ≤ 159
three_high c (inl h) e = omega arith
three_high c (inr h) e = absurd (omega arith)

least_le : (a b : ℕ) → 128 ≤ b → (a ≡ 224 → 160 ≤ b) → (a ≡ 240 → 144 ≤ b) → least_after a ≤ b
least_le a b l h k =
    elim (cases_eq a 224) [
      | inl e ↦ rw (eq-eqb a 224 e) (h e)
      | inr n ↦ elim (cases_eq a 240) [ inl e ↦ rw (ne_eqb a 224 n, eq-eqb a 240 e) (k e) | inr m ↦ rw (ne_eqb a 224 n, ne_eqb a 240 m) l ]
    ]

le_most : (a b : ℕ) → b ≤ 191 → (a ≡ 237 → b ≤ 159) → (a ≡ 244 → b ≤ 143) → b ≤ most_after a
le_most a b l h k =
    elim (cases_eq a 237) [
      | inl e ↦ rw (eq-eqb a 237 e) (h e)
      | inr n ↦ elim (cases_eq a 244) [ inl e ↦ rw (ne_eqb a 237 n, eq-eqb a 244 e) (k e) | inr m ↦ rw (ne_eqb a 237 n, ne_eqb a 244 m) l ]
    ]

char_scan : (c : ℕ) → Ranges c → (x : List ℕ) → Scanned x → Scanned (encode c ++ x)
char_scan c r x s =
    let top = ranges_below c r in
    elim (cases_lt c 128) [
      | inl small ↦ subst (λ z. Scanned (z ++ x)) (sym (encode_ascii c small)) (scanned_1 c x small s)
      | inr l1 ↦ elim (cases_lt c 2048) [
        | inl h2 ↦ subst (λ z. Scanned (z ++ x)) (sym (encode_2 c l1 h2)) (scanned_2 (192 + c / 64) (next c) x (omega arith) (omega arith) (omega arith) (omega arith) s)
        | inr l2 ↦ elim (cases_lt c 65536) [
          | inl h3 ↦
              subst (λ z. Scanned (z ++ x)) (sym (encode_3 c l2 h3))
              (scanned_3 (224 + c / 4096) (next (c / 64)) (next c) x (omega arith) (omega arith)
              (least_le (224 + c / 4096) (next (c / 64)) (omega arith) (λ e. omega arith) (λ e. omega arith)) (le_most (224 + c / 4096) (next (c / 64)) (omega arith) (three_high c r) (λ e. omega arith)) (omega arith) (omega arith) (omega arith) s)
          | inr l3 ↦
              subst (λ z. Scanned (z ++ x)) (sym (encode_4 c l3))
              (scanned_4 (240 + c / 262144) (next (c / 4096)) (next (c / 64)) (next c) x (omega arith) (omega arith)
              (least_le (240 + c / 262144) (next (c / 4096)) (omega arith) (λ e. omega arith) (λ e. omega arith)) (le_most (240 + c / 262144) (next (c / 4096)) (omega arith) (λ e. omega arith) (λ e. omega arith)) (omega arith) (omega arith) (omega arith) (omega arith) (omega arith) s)
        ]
      ]
    ]

chars_scan : (cs : List ℕ) → scalars cs ≡ true → Scanned (encodes cs)
chars_scan [] e = (tt, tt)
chars_scan (c ∷ cs) e = let p = and_parts _ _ e in char_scan c (scalar_cases c p.0) (encodes cs) (chars_scan cs p.1)

pub utf8_scan : (x : List ℕ) → IsUtf8 x → Scanned x
utf8_scan x u = subst Scanned u.1.1 (chars_scan u.0 u.1.0)

pub record Peeled (left least most : ℕ) (x : List ℕ) : Type 0 where
  pub byte : ℕ
  pub rest : List ℕ
  pub n : ℕ
  pub is : x ≡ byte ∷ rest
  pub low : least ≤ byte
  pub high : byte ≤ most
  pub scans : IsScanned utf8_step n (due left 128 191) rest
  pub room : left ≤ n

peel : (n left least most : ℕ) (x : List ℕ) → suc left ≤ n → IsScanned utf8_step n (due (suc left) least most) x → Peeled left least most x
peel zero left least most x room s = absurd (omega arith)
peel (suc n) left least most [] room s = absurd s
peel (suc n) left least most (b ∷ x) room s =
    let h = room_left n (due_after (due (suc left) least most) b) s.0 s.1 in
    elim (cases_lt b least) [
      | inl lt ↦ not_none (due_after (due (suc left) least most) b) s.0 (rw (lt-ltb b least lt) refl) h.0
      | inr lo ↦ elim (cases_lt most b) [
        | inl lt ↦ not_none (due_after (due (suc left) least most) b) s.0 (rw (le-ltb b least lo, lt-ltb most b lt) refl) h.0
        | inr hi ↦
            let same : due left 128 191 ≡ s.0 = some_is _ s.0 (sym (rw (le-ltb b least lo, le-ltb most b hi) refl) ∙ h.0) in
            record { byte = b; rest = x; n = n; is = refl; low = lo; high = hi; scans = subst (λ d. IsScanned utf8_step n d x) (sym same) s.2; room = subst (λ (d : Due). d.left ≤ n) (sym same) h.1 }
      ]
    ]

high_scalar : (c : ℕ) → 57344 ≤ c → c < 1114112 → scalar c ≡ true
high_scalar c l h = grind (arith, nat_tests)

two_bytes : (a p b q : ℕ) → a ≡ p → b ≡ q → a ∷ b ∷ [] ≡ p ∷ q ∷ []
two_bytes a p b q e f = cc

utf8_2 : (a b : ℕ) (x : List ℕ) → 194 ≤ a → a < 224 → 128 ≤ b → b ≤ 191 → IsUtf8 x → IsUtf8 (a ∷ b ∷ x)
utf8_2 a b x l h bl bh u =
    let c = (a - 192) * 64 + (b - 128) in
    let is : encode c ≡ a ∷ b ∷ [] = encode_2 c (omega arith) (omega arith) ∙ two_bytes _ a _ b (omega arith) (omega arith) in
    IsUtf8-append (a ∷ b ∷ []) x (subst IsUtf8 is (IsUtf8-encode c (low_scalar c (omega arith)))) u

from_least : (a b : ℕ) → least_after a ≤ b → (128 ≤ b) × (a ≡ 224 → 160 ≤ b) × (a ≡ 240 → 144 ≤ b)
from_least a b l =
    elim (cases_eq a 224) [
      | inl e ↦ let m = rw (eq-eqb a 224 e) at l in let h : 160 ≤ b = m in (omega (arith, h), λ _. h, λ f. absurd (omega arith))
      | inr n ↦ elim (cases_eq a 240) [
        | inl e ↦ let m = rw (ne_eqb a 224 n, eq-eqb a 240 e) at l in let h : 144 ≤ b = m in (omega (arith, h), λ f. absurd (n f), λ _. h)
        | inr k ↦ let m = rw (ne_eqb a 224 n, ne_eqb a 240 k) at l in let h : 128 ≤ b = m in (h, λ f. absurd (n f), λ f. absurd (k f))
      ]
    ]

from_most : (a b : ℕ) → b ≤ most_after a → (b ≤ 191) × (a ≡ 237 → b ≤ 159) × (a ≡ 244 → b ≤ 143)
from_most a b l =
    elim (cases_eq a 237) [
      | inl e ↦ let m = rw (eq-eqb a 237 e) at l in let h : b ≤ 159 = m in (omega (arith, h), λ _. h, λ f. absurd (omega arith))
      | inr n ↦ elim (cases_eq a 244) [
        | inl e ↦ let m = rw (ne_eqb a 237 n, eq-eqb a 244 e) at l in let h : b ≤ 143 = m in (omega (arith, h), λ f. absurd (n f), λ _. h)
        | inr k ↦ let m = rw (ne_eqb a 237 n, ne_eqb a 244 k) at l in let h : b ≤ 191 = m in (h, λ f. absurd (n f), λ f. absurd (k f))
      ]
    ]

three_bytes : (a p b q c r : ℕ) → a ≡ p → b ≡ q → c ≡ r → a ∷ b ∷ c ∷ [] ≡ p ∷ q ∷ r ∷ []
three_bytes a p b q c r e f g = cc

four_bytes : (a p b q c r d s : ℕ) → a ≡ p → b ≡ q → c ≡ r → d ≡ s → a ∷ b ∷ c ∷ d ∷ [] ≡ p ∷ q ∷ r ∷ s ∷ []
four_bytes a p b q c r d s e f g h = cc

scalar_3 : (a b d c : ℕ) → c + 925824 ≡ a * 4096 + b * 64 + d → 128 ≤ b → b ≤ 191 → 128 ≤ d → d ≤ 191 → (a ≡ 237 → b ≤ 159) → a < 240 → scalar c ≡ true
scalar_3 a b d c e bl bh dl dh h l =
    elim (cases_lt a 237) [
      | inl lt ↦ low_scalar c (omega arith)
      | inr ge ↦ elim (cases_eq a 237) [
        | inl same ↦ let top = h same in low_scalar c (omega (arith, top))
        | inr other ↦ high_scalar c (omega (arith, other)) (omega arith)
      ]
    ]

utf8_3 : (a b d : ℕ) (x : List ℕ) → 224 ≤ a → a < 240 → least_after a ≤ b → b ≤ most_after a → 128 ≤ d → d ≤ 191 → IsUtf8 x → IsUtf8 (a ∷ b ∷ d ∷ x)
utf8_3 a b d x l h bl bh dl dh u =
    let lo = from_least a b bl in
    let hi = from_most a b bh in
    let c = (a * 4096 + b * 64 + d) - 925824 in
    let low : 224 ≡ a → 160 ≤ b = λ e. lo.1 (sym e) in
    let big : 2048 ≤ c = elim (cases_eq a 224) [ inl e ↦ let k = lo.1 e in omega (arith, k) | inr n ↦ omega (arith, n, lo.0) ] in
    let sum : c + 925824 ≡ a * 4096 + b * 64 + d = omega (arith, lo.0) in
    let is : encode c ≡ a ∷ b ∷ d ∷ [] = encode_3 c big (omega (arith, hi.0)) ∙ three_bytes _ a _ b _ d (omega (arith, lo.0, hi.0)) (omega (arith, lo.0, hi.0)) (omega (arith, lo.0, hi.0)) in
    IsUtf8-append (a ∷ b ∷ d ∷ []) x (subst IsUtf8 is (IsUtf8-encode c (scalar_3 a b d c sum lo.0 hi.0 dl dh hi.1 h))) u

utf8_4 : (a b d f : ℕ) (x : List ℕ) → 240 ≤ a → a < 245 → least_after a ≤ b → b ≤ most_after a → 128 ≤ d → d ≤ 191 → 128 ≤ f → f ≤ 191 → IsUtf8 x → IsUtf8 (a ∷ b ∷ d ∷ f ∷ x)
utf8_4 a b d f x l h bl bh dl dh fl fh u =
    let lo = from_least a b bl in
    let hi = from_most a b bh in
    let c = (a * 262144 + b * 4096 + d * 64 + f) - 63447168 in
    let big : 65536 ≤ c = elim (cases_eq a 240) [ inl e ↦ let k = lo.2 e in omega (arith, k) | inr n ↦ omega (arith, n, lo.0) ] in
    let top : c < 1114112 = elim (cases_eq a 244) [ inl e ↦ let k = hi.2 e in omega (arith, k) | inr n ↦ omega (arith, n, hi.0) ] in
    let sum : c + 63447168 ≡ a * 262144 + b * 4096 + d * 64 + f = omega (arith, lo.0) in
    let is : encode c ≡ a ∷ b ∷ d ∷ f ∷ [] = encode_4 c big ∙ four_bytes _ a _ b _ d _ f (omega (arith, lo.0, hi.0)) (omega (arith, lo.0, hi.0)) (omega (arith, lo.0, hi.0)) (omega (arith, lo.0, hi.0)) in
    IsUtf8-append (a ∷ b ∷ d ∷ f ∷ []) x (subst IsUtf8 is (IsUtf8-encode c (high_scalar c (omega (arith, big)) top))) u

-- the first character and what follows it
scan_within : (k n : ℕ) (x : List ℕ) → length x ≤ k → IsScanned utf8_step n start x → IsUtf8 x
scan_within k n [] le s = IsUtf8-nil
scan_within zero n (b ∷ x) le s = absurd (omega arith)
scan_within (suc k) zero (b ∷ x) le s = absurd s
scan_within (suc k) (suc n) (b ∷ x) le s =
    let first = room_left n (lead b) s.0 s.1 in
    elim (cases_lt b 128) [
      | inl h ↦
          let d = some_is start s.0 (sym (lead_1 b h) ∙ first.0) in
          IsUtf8-append (b ∷ []) x (subst IsUtf8 (encode_ascii b h) (IsUtf8-encode b (low_scalar b (omega arith)))) (scan_within k n x (omega arith) (subst (λ d. IsScanned utf8_step n d x) (sym d) s.2))
      | inr l1 ↦ elim (cases_lt b 194) [
        | inl h ↦ not_none (lead b) s.0 (lead_low b l1 h) first.0
        | inr l2 ↦ elim (cases_lt b 224) [
          | inl h ↦
              let d = some_is (due 1 128 191) s.0 (sym (lead_2 b l2 h) ∙ first.0) in
              let p = peel n 0 128 191 x (subst (λ (d : Due). d.left ≤ n) (sym d) first.1) (subst (λ d. IsScanned utf8_step n d x) (sym d) s.2) in
              subst (λ z. IsUtf8 (b ∷ z)) (sym p.is) (utf8_2 b p.byte p.rest l2 h p.low p.high (scan_within k p.n p.rest (omega (arith, ap length p.is)) p.scans))
          | inr l3 ↦ elim (cases_lt b 240) [
            | inl h ↦
                let d = some_is (due 2 (least_after b) (most_after b)) s.0 (sym (lead_3 b l3 h) ∙ first.0) in
                let p = peel n 1 (least_after b) (most_after b) x (subst (λ (d : Due). d.left ≤ n) (sym d) first.1) (subst (λ d. IsScanned utf8_step n d x) (sym d) s.2) in
                let q = peel p.n 0 128 191 p.rest p.room p.scans in
                subst (λ z. IsUtf8 (b ∷ z)) (sym (p.is ∙ ap (λ z. p.byte ∷ z) q.is))
                (utf8_3 b p.byte q.byte q.rest l3 h p.low p.high q.low q.high (scan_within k q.n q.rest (omega (arith, ap length p.is, ap length q.is)) q.scans))
            | inr l4 ↦ elim (cases_lt b 245) [
              | inl h ↦
                  let d = some_is (due 3 (least_after b) (most_after b)) s.0 (sym (lead_4 b l4 h) ∙ first.0) in
                  let p = peel n 2 (least_after b) (most_after b) x (subst (λ (d : Due). d.left ≤ n) (sym d) first.1) (subst (λ d. IsScanned utf8_step n d x) (sym d) s.2) in
                  let q = peel p.n 1 128 191 p.rest p.room p.scans in
                  let r = peel q.n 0 128 191 q.rest q.room q.scans in
                  subst (λ z. IsUtf8 (b ∷ z)) (sym (p.is ∙ ap (λ z. p.byte ∷ z) (q.is ∙ ap (λ z. q.byte ∷ z) r.is)))
                  (utf8_4 b p.byte q.byte r.byte r.rest l4 h p.low p.high q.low q.high r.low r.high (scan_within k r.n r.rest (omega (arith, ap length p.is, ap length q.is, ap length r.is)) r.scans))
              | inr l5 ↦ not_none (lead b) s.0 (lead_high b l5) first.0
            ]
          ]
        ]
      ]
    ]

pub scan_utf8 : (n : ℕ) (x : List ℕ) → IsScanned utf8_step n start x → IsUtf8 x
scan_utf8 n x s = scan_within (length x) n x (omega arith) s

pub text_lawful : (limit : ℕ) → limit < 2 ^ 32 → Lawful (text limit) (IsText limit)
unfolding text_at
text_lawful limit fits =
    let Q : ℕ → List ℕ → Type 0 = λ n x. IsScanned utf8_step n start x × IsBytes x in
    via (chain (upto w32 limit) utf8 length) (λ x. (length x ≤ limit) × Q (length x) x) (text limit) (IsText limit) (λ x. x)
    (chain_lawful (upto w32 limit) (λ n. n ≤ limit) utf8 Q length (upto_lawful w32 (2 ^ 32) limit wide32 fits)
    (λ n h. scanned_lawful utf8_step Room utf8_keeps utf8_filler n start (omega arith, omega arith, omega arith)) (λ n x h q. scan_length utf8_step n start x q.0))
    (λ bytes. read_again (text_at limit bytes)) (λ x h. ((h.0, scan_utf8 (length x) x h.1.0), refl))
    (λ x h. (x, (h.0, utf8_scan x h.1), refl))

-- what was found without a fault is a text
pub text_judged : (n : ℕ) (bytes : List ℕ) → IsBytes bytes → scan_at utf8_step n start bytes ≡ Ok (take n bytes, drop n bytes) → IsUtf8 (take n bytes)
text_judged n bytes ib e =
    scan_utf8 n (take n bytes) ((scanned_lawful utf8_step Room utf8_keeps utf8_filler n start (omega arith, omega arith, omega arith)).takes bytes (take n bytes) (drop n bytes) ib e).0.0

-- and what is a text is found without a fault
pub text_scans : (n : ℕ) (bytes : List ℕ) → n ≤ length bytes → IsUtf8 (take n bytes) → scan_at utf8_step n start bytes ≡ Ok (take n bytes, drop n bytes)
text_scans n bytes long text =
    let seen = utf8_scan (take n bytes) text in
    let law = scanned_lawful utf8_step Room utf8_keeps utf8_filler n start (omega arith, omega arith, omega arith) in
    ap (scan_at utf8_step n start) (sym (take-append-drop n bytes))
    ∙ law.again (take n bytes) (drop n bytes) (subst (λ (k : ℕ). IsScanned utf8_step k start (take n bytes)) (omega (arith, length-take n bytes, long)) seen.0, seen.1)
