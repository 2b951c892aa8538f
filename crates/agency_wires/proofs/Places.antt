-- What a search for a byte finds, in the words of the definitions.
use Rattle.std.proofs.Common.{◌≡◌, ℕ, zero, suc, ◌<◌, ◌≤◌, Bool, true, false, cond, not, ◌||◌, List, [], ◌∷◌, length, take, get_or, Option, Some, None, refl, sym, ap, subst, ◌∙◌, arith, inl, inr, eqb}
use Rattle.std.specs.List.{position, prefix_len, list_any}
use Rattle.std.specs.Option.{is_some}
use Rattle.std.proofs.lemmas.Bool.{cases_Bool, lt-ltb, le-ltb}
use Rattle.std.proofs.lemmas.List.{length-take, take-take}
use Rattle.std.proofs.lemmas.List.Sums.{prefix_len_is, prefix_len_passes}
use Rattle.memchr.specs.Find.{IsFirstByte, is_byte3}
use Rattle.agency_wires.specs.declared.phase.Phase.{Phase}
use Rattle.agency_wires.specs.declared.phase.Phase.TheVariants.{Head, Text, Mark, Info}
use Rattle.agency_wires.specs.declared.phase.Step.TheVariants.{Go}
use Rattle.agency_wires.specs.Messages.{ends_message, ends_line}
use Rattle.agency_wires.specs.Machine.{step, Leads}

no_test : (t : Bool) → (t ≡ true → ⊥) → t ≡ false
no_test true h = absurd (h refl)
no_test false h = refl

not_false : (t : Bool) → t ≡ false → not t ≡ true
not_false t e = ap not e

not_true : (t : Bool) → t ≡ true → not t ≡ false
not_true t e = ap not e

-- ---- the first byte that passes

pub first_is : (p : ℕ → Bool) (xs : List ℕ) (r : Option ℕ) → IsFirstByte p xs r → r ≡ position p xs
first_is p xs None h =
    let all = prefix_len_is (λ x. not (p x)) xs (length xs) 0 (omega arith) (λ k l. not_false (p (get_or xs k 0)) (no_test (p (get_or xs k 0)) (h k (omega arith) l))) (λ l. absurd (omega (arith, l))) in
    sym (ap (λ t. cond t (Some (prefix_len (λ x. not (p x)) xs)) None) (le-ltb (prefix_len (λ x. not (p x)) xs) (length xs) (omega (arith, all))))
first_is p xs (Some i) h =
    let first = h.0 in
    let found = h.1 in
    let place = prefix_len_is (λ x. not (p x)) xs i 0 (omega (arith, first.high)) (λ k l. not_false (p (get_or xs k 0)) (no_test (p (get_or xs k 0)) (first.before k (omega arith) l))) (λ l. not_true (p (get_or xs i 0)) found) in
    sym (ap (λ t. cond t (Some (prefix_len (λ x. not (p x)) xs)) None) (lt-ltb (prefix_len (λ x. not (p x)) xs) (length xs) (omega (arith, first.high, place))) ∙ ap Some place)

any_at : (p : ℕ → Bool) (xs : List ℕ) (k : ℕ) → k < length xs → p (get_or xs k 0) ≡ true → list_any p xs ≡ true
any_at p [] k l e = absurd (omega (arith, l))
any_at p (x ∷ xs) zero l e = rw e refl
any_at p (x ∷ xs) (suc k) l e =
    let h = any_at p xs k (omega (arith, l)) e in
    elim (cases_Bool (p x)) [
      | inl t ↦ rw t refl
      | inr f ↦ rw f h
    ]

any_none : (p : ℕ → Bool) (xs : List ℕ) → ((k : ℕ) → k < length xs → p (get_or xs k 0) ≡ false) → list_any p xs ≡ false
any_none p [] h = refl
any_none p (x ∷ xs) h =
    let none = any_none p xs (λ k l. h (suc k) (omega (arith, l))) in
    let here : p x ≡ false = h 0 (omega arith) in
    rw here none

pub any_is : (p : ℕ → Bool) (xs : List ℕ) (r : Option ℕ) → IsFirstByte p xs r → is_some r ≡ list_any p xs
any_is p xs None h = sym (any_none p xs (λ k l. no_test (p (get_or xs k 0)) (h k (omega arith) l)))
any_is p xs (Some i) h = let first = h.0 in sym (any_at p xs i first.high h.1)

-- ---- bytes that leave a message in its phase

abbrev pub IsQuiet : Phase → ℕ → Type 0
IsQuiet p b = (ends_message b ≡ false) × (step p b ≡ Go p)

leads_quiet : (p : Phase) (xs : List ℕ) (n : ℕ) → n ≤ length xs → ((k : ℕ) → k < n → IsQuiet p (get_or xs k 0)) → Leads p (take n xs) p
leads_quiet p xs zero l h = refl
leads_quiet p [] (suc n) l h = absurd (omega (arith, l))
leads_quiet p (x ∷ xs) (suc n) l h = let q = h 0 (omega arith) in (q.0, p, q.1, leads_quiet p xs n (omega (arith, l)) (λ k lt. h (suc k) (omega (arith, lt))))

three_false : (x y z : Bool) → (x || y || z) ≡ false → (x ≡ false) × (y ≡ false) × (z ≡ false)
three_false false false false e = (refl, refl, refl)
three_false true y z e = cc
three_false false true z e = cc
three_false false false true e = cc

quiet_head : (b : ℕ) → is_byte3 1 2 4 b ≡ false → IsQuiet Head b
quiet_head b e =
    let h = three_false (eqb b 1) (eqb b 2) (eqb b 4) e in
    (ap (λ t. t || eqb b 4) h.0 ∙ h.2, ap (λ t. Go (cond t Text Head)) h.1)

quiet_text : (b : ℕ) → is_byte3 1 3 4 b ≡ false → IsQuiet Text b
quiet_text b e =
    let h = three_false (eqb b 1) (eqb b 3) (eqb b 4) e in
    (ap (λ t. t || eqb b 4) h.0 ∙ h.2, ap (λ t. Go (cond t (Mark 4) Text)) h.1)

quiet_info : (s t : Bool) → not (s || t) ≡ true → (t ≡ false) × (Go (cond s (Mark 4) Info) ≡ Go Info)
quiet_info false false e = (refl, refl)
quiet_info true t e = cc
quiet_info false true e = cc

-- the bytes before the first that passes, all where none does
abbrev pub first_or : Option ℕ → ℕ → ℕ
first_or None n = n
first_or (Some i) n = i

quiet_first : (p : Phase) (test : ℕ → Bool) (xs : List ℕ) (r : Option ℕ) → ((b : ℕ) → test b ≡ false → IsQuiet p b) → IsFirstByte test xs r
    → Leads p (take (first_or r (length xs)) xs) p × (first_or r (length xs) ≤ length xs)
quiet_first p test xs None q h = (leads_quiet p xs (length xs) (omega arith) (λ k l. q (get_or xs k 0) (no_test (test (get_or xs k 0)) (h k (omega arith) l))), omega arith)
quiet_first p test xs (Some i) q h =
    let first = h.0 in
    (leads_quiet p xs i (omega (arith, first.high)) (λ k l. q (get_or xs k 0) (no_test (test (get_or xs k 0)) (first.before k (omega arith) l))), omega (arith, first.high))

pub first_in_head : (xs : List ℕ) (r : Option ℕ) → IsFirstByte (is_byte3 1 2 4) xs r → Leads Head (take (first_or r (length xs)) xs) Head × (first_or r (length xs) ≤ length xs)
first_in_head xs r h = quiet_first Head (is_byte3 1 2 4) xs r quiet_head h

pub first_in_text : (xs : List ℕ) (r : Option ℕ) → IsFirstByte (is_byte3 1 3 4) xs r → Leads Text (take (first_or r (length xs)) xs) Text × (first_or r (length xs) ≤ length xs)
first_in_text xs r h = quiet_first Text (is_byte3 1 3 4) xs r quiet_text h

leads_line : (xs : List ℕ) (n : ℕ) → n ≤ length xs → n ≡ prefix_len (λ b. not (ends_line b || ends_message b)) xs → Leads Info (take n xs) Info
leads_line xs n l e =
    leads_quiet Info xs n l (λ k lt.
    let b = get_or xs k 0 in
    let h = quiet_info (ends_line b) (ends_message b) (prefix_len_passes (λ c. not (ends_line c || ends_message c)) xs k 0 (omega (arith, lt, e))) in
    (h.0, h.1))

pub line_near : (near bytes : List ℕ) (m n : ℕ) → near ≡ take m bytes → n ≤ length near → n ≡ prefix_len (λ b. not (ends_line b || ends_message b)) near → Leads Info (take n bytes) Info
line_near near bytes m n e l v =
    let few : n ≤ m = omega (arith, l, ap length e, length-take m bytes) in
    subst (λ z. Leads Info z Info) (ap (take n) e ∙ take-take n m bytes few) (leads_line near n l v)
