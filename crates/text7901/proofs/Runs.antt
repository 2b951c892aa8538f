-- The machine comes to what the definition says.
use Rattle.std.proofs.Common.{◌≡◌, ℕ, zero, suc, ◌+◌, ◌<◌, ◌≤◌, Bool, true, false, cond, ◌&&◌, nat_lt, List, [], ◌∷◌, length, Option, Some, None, refl, sym, ap, ◌∙◌, arith, inl, inr, eqb}
use Rattle.std.proofs.lemmas.Bool.{cases_eq, cases_Bool, eq-eqb, ne_eqb, le-ltb, lt-ltb}
use Rattle.std.proofs.lemmas.Bool.Decides.{nat_tests}
use Rattle.text7901.specs.declared.found.What.{What}
use Rattle.text7901.specs.declared.found.What.TheVariants.{NoHeader}
use Rattle.text7901.specs.declared.phase.Phase.{Phase}
use Rattle.text7901.specs.declared.phase.Phase.TheVariants.{Source, Number, Head, Text, Info}
use Rattle.text7901.specs.declared.phase.Step.{Step}
use Rattle.text7901.specs.declared.phase.Step.TheVariants.{Go, Bad, Ends}
use Rattle.text7901.specs.Fields.{letter, digit, past}
use Rattle.text7901.specs.Wire.{End, fault, end_of_info, end_of_text, end_of_head, end_of_number, end_of}
use Rattle.text7901.specs.Machine.{step, head_step_of, at_end}

abbrev comes : Option What → ℕ → End
comes w n = record { what = w; left = n }

abbrev pub after : Step → ℕ → (Phase → End) → End
after (Go q) n f = f q
after (Bad w) n f = comes (Some w) n
after Ends n f = comes None n

-- what the machine comes to
abbrev pub run : Phase → List ℕ → End
run p [] = comes (at_end p) 0
run p (b ∷ bytes) = after (step p b) (suc (length bytes)) (λ q. run q bytes)

is : (b k : ℕ) → b ≡ k → eqb b k ≡ true
is b k e = eq-eqb b k e

run_info : (bytes : List ℕ) → run Info bytes ≡ end_of_info bytes
run_info [] = refl
run_info (b ∷ bytes) =
    elim (cases_eq b 4) [
      | inl e ↦ rw (eq-eqb b 4 e) refl
      | inr n ↦ rw (ne_eqb b 4 n) (run_info bytes)
    ]

run_text : (bytes : List ℕ) → run Text bytes ≡ end_of_text bytes
run_text [] = refl
run_text (b ∷ bytes) =
    elim (cases_eq b 3) [
      | inl e ↦ rw (eq-eqb b 3 e, eq-eqb b 3 e) (run_info bytes)
      | inr n ↦ elim (cases_eq b 4) [
        | inl e ↦ rw (ne_eqb b 3 n, eq-eqb b 4 e, ne_eqb b 3 n) refl
        | inr m ↦ rw (ne_eqb b 3 n, ne_eqb b 4 m) (run_text bytes)
      ]
    ]

run_head : (bytes : List ℕ) → run Head bytes ≡ end_of_head bytes
run_head [] = refl
run_head (b ∷ bytes) =
    elim (cases_eq b 2) [
      | inl e ↦ rw (eq-eqb b 2 e, eq-eqb b 2 e) (run_text bytes)
      | inr n ↦ elim (cases_eq b 4) [
        | inl e ↦ rw (ne_eqb b 2 n, eq-eqb b 4 e, ne_eqb b 2 n) refl
        | inr m ↦ rw (ne_eqb b 2 n, ne_eqb b 4 m) (run_head bytes)
      ]
    ]

-- a byte in the number that is no further digit
step_head : (n b : ℕ) → (digit b && nat_lt n 8) ≡ false → step (Number n) b ≡ head_step_of b
step_head n b e = ap (λ t. cond t (Go (Number (n + 1))) (head_step_of b)) e

step_digit : (n b : ℕ) → digit b ≡ true → n < 8 → step (Number n) b ≡ Go (Number (n + 1))
step_digit n b e lt = ap (λ t. cond (t && nat_lt n 8) (Go (Number (n + 1))) (head_step_of b)) e ∙ ap (λ t. cond t (Go (Number (n + 1))) (head_step_of b)) (lt-ltb n 8 lt)

no_digit : (n b : ℕ) → digit b ≡ false → (digit b && nat_lt n 8) ≡ false
no_digit n b e = ap (λ t. t && nat_lt n 8) e

no_room : (t : Bool) (n : ℕ) → 8 ≤ n → (t && nat_lt n 8) ≡ false
no_room true n le = le-ltb n 8 le
no_room false n le = refl

abbrev runs_on : ℕ → List ℕ → Step → End
runs_on b bytes s = after s (suc (length bytes)) (λ q. run q bytes)

as_head : (n b : ℕ) (bytes : List ℕ) → (digit b && nat_lt n 8) ≡ false → run (Number n) (b ∷ bytes) ≡ end_of_head (b ∷ bytes)
as_head n b bytes e = ap (runs_on b bytes) (step_head n b e) ∙ run_head (b ∷ bytes)

run_number : (k n : ℕ) (bytes : List ℕ) → k + n ≡ 8 → run (Number n) bytes ≡ end_of_head (past digit k bytes)
run_number zero n [] e = refl
run_number (suc k) n [] e = refl
run_number zero n (b ∷ bytes) e = as_head n b bytes (no_room (digit b) n (omega arith))
run_number (suc k) n (b ∷ bytes) e =
    elim (cases_Bool (digit b)) [
      | inl d ↦ ap (runs_on b bytes) (step_digit n b d (omega arith)) ∙ run_number k (n + 1) bytes (omega arith) ∙ ap (λ t. end_of_head (cond t (past digit k bytes) (b ∷ bytes))) (sym d)
      | inr d ↦ as_head n b bytes (no_digit n b d) ∙ ap (λ t. end_of_head (cond t (past digit k bytes) (b ∷ bytes))) (sym d)
    ]

past_length : (p : ℕ → Bool) (k : ℕ) (bytes : List ℕ) → length (past p k bytes) ≤ length bytes
past_length p zero bytes = omega arith
past_length p (suc k) [] = omega arith
past_length p (suc k) (b ∷ bytes) =
    elim (cases_Bool (p b)) [
      | inl d ↦ let h = past_length p k bytes in rw d (omega (arith, h))
      | inr d ↦ rw d (omega arith)
    ]

abbrev num : List ℕ → List ℕ → End
num rest bytes = cond (eqb (length rest) (length bytes)) (fault NoHeader bytes) (end_of_head rest)

abbrev mes : List ℕ → List ℕ → End
mes rest bytes = cond (eqb (length rest) (length bytes)) (fault NoHeader bytes) (end_of_number rest)

-- one byte on, as the definition goes
number_digit : (b : ℕ) (bytes : List ℕ) → digit b ≡ true → end_of_number (b ∷ bytes) ≡ end_of_head (past digit 7 bytes)
number_digit b bytes d =
    let h = past_length digit 7 bytes in
    ap (λ t. num (cond t (past digit 7 bytes) (b ∷ bytes)) (b ∷ bytes)) d ∙ ap (λ t. cond t (fault NoHeader (b ∷ bytes)) (end_of_head (past digit 7 bytes))) (ne_eqb (length (past digit 7 bytes)) (suc (length bytes)) (omega arith))

number_none : (b : ℕ) (bytes : List ℕ) → digit b ≡ false → end_of_number (b ∷ bytes) ≡ fault NoHeader (b ∷ bytes)
number_none b bytes d =
    ap (λ t. num (cond t (past digit 7 bytes) (b ∷ bytes)) (b ∷ bytes)) d ∙ ap (λ t. cond t (fault NoHeader (b ∷ bytes)) (end_of_head (b ∷ bytes))) (eq-eqb (suc (length bytes)) (suc (length bytes)) refl)

message_letter : (b : ℕ) (bytes : List ℕ) → letter b ≡ true → end_of (b ∷ bytes) ≡ end_of_number (past letter 7 bytes)
message_letter b bytes d =
    let h = past_length letter 7 bytes in
    ap (λ t. mes (cond t (past letter 7 bytes) (b ∷ bytes)) (b ∷ bytes)) d ∙ ap (λ t. cond t (fault NoHeader (b ∷ bytes)) (end_of_number (past letter 7 bytes))) (ne_eqb (length (past letter 7 bytes)) (suc (length bytes)) (omega arith))

message_none : (b : ℕ) (bytes : List ℕ) → letter b ≡ false → end_of (b ∷ bytes) ≡ fault NoHeader (b ∷ bytes)
message_none b bytes d =
    ap (λ t. mes (cond t (past letter 7 bytes) (b ∷ bytes)) (b ∷ bytes)) d ∙ ap (λ t. cond t (fault NoHeader (b ∷ bytes)) (end_of_number (b ∷ bytes))) (eq-eqb (suc (length bytes)) (suc (length bytes)) refl)

not_both : (b : ℕ) → letter b ≡ true → digit b ≡ false
not_both b e = grind (arith, nat_tests, e)

-- the step in the source, by its two tests
abbrev source_by : ℕ → Bool → Bool → Step
source_by n l d = cond l (Go (Source (n + 1))) (cond d (Go (Number 1)) (Bad NoHeader))

source_step : (n b : ℕ) (l d : Bool) → (letter b && nat_lt n 8) ≡ l → (digit b && nat_lt 0 n) ≡ d → step (Source n) b ≡ source_by n l d
source_step n b l d e f = ap (λ t. source_by n t (digit b && nat_lt 0 n)) e ∙ ap (source_by n l) f

and_is : (s t : Bool) (x y : Bool) → s ≡ x → t ≡ y → (s && t) ≡ (x && y)
and_is s t x y e f = cc

no_digit_here : (n b : ℕ) → digit b ≡ false → (digit b && nat_lt 0 n) ≡ false
no_digit_here n b e = ap (λ t. t && nat_lt 0 n) e

-- behind at least one letter, a byte that is no further letter
behind_letters : (n b : ℕ) (bytes : List ℕ) → 0 < n → (letter b && nat_lt n 8) ≡ false → run (Source n) (b ∷ bytes) ≡ end_of_number (b ∷ bytes)
behind_letters n b bytes pos e =
    elim (cases_Bool (digit b)) [
      | inl d ↦ ap (runs_on b bytes) (source_step n b false true e (and_is (digit b) (nat_lt 0 n) true true d (lt-ltb 0 n pos))) ∙ run_number 7 1 bytes refl ∙ sym (number_digit b bytes d)
      | inr d ↦ ap (runs_on b bytes) (source_step n b false false e (no_digit_here n b d)) ∙ sym (number_none b bytes d)
    ]

run_source : (k n : ℕ) (bytes : List ℕ) → k + n ≡ 8 → 0 < n → run (Source n) bytes ≡ end_of_number (past letter k bytes)
run_source zero n [] e pos = refl
run_source (suc k) n [] e pos = refl
run_source zero n (b ∷ bytes) e pos = behind_letters n b bytes pos (no_room (letter b) n (omega arith))
run_source (suc k) n (b ∷ bytes) e pos =
    elim (cases_Bool (letter b)) [
      | inl d ↦
          ap (runs_on b bytes) (source_step n b true (digit b && nat_lt 0 n) (and_is (letter b) (nat_lt n 8) true true d (lt-ltb n 8 (omega arith))) refl)
          ∙ run_source k (n + 1) bytes (omega arith) (omega arith) ∙ ap (λ t. end_of_number (cond t (past letter k bytes) (b ∷ bytes))) (sym d)
      | inr d ↦ behind_letters n b bytes pos (ap (λ t. t && nat_lt n 8) d) ∙ ap (λ t. end_of_number (cond t (past letter k bytes) (b ∷ bytes))) (sym d)
    ]

-- ---- the machine comes to what the definition says

pub run_message : (bytes : List ℕ) → run (Source 0) bytes ≡ end_of bytes
run_message [] = refl
run_message (b ∷ bytes) =
    elim (cases_Bool (letter b)) [
      | inl d ↦ ap (runs_on b bytes) (source_step 0 b true (digit b && nat_lt 0 0) (ap (λ t. t && nat_lt 0 8) d) refl) ∙ run_source 7 1 bytes refl (omega arith) ∙ sym (message_letter b bytes d)
      | inr d ↦ ap (runs_on b bytes) (source_step 0 b false false (ap (λ t. t && nat_lt 0 8) d) (never (digit b))) ∙ sym (message_none b bytes d)
    ]
  where
    never : (t : Bool) → (t && nat_lt 0 0) ≡ false
    never true = refl
    never false = refl

pub run_left : (p : Phase) (bytes : List ℕ) → (run p bytes).left ≤ length bytes
run_left p [] = omega arith
run_left p (b ∷ bytes) = after_left (step p b) bytes (λ q. run_left q bytes)
  where
    after_left : (s : Step) (bytes : List ℕ) → ((q : Phase) → (run q bytes).left ≤ length bytes) → (after s (suc (length bytes)) (λ q. run q bytes)).left ≤ suc (length bytes)
    after_left (Go q) bytes h = let k = h q in omega (arith, k)
    after_left (Bad w) bytes h = omega arith
    after_left Ends bytes h = omega arith
