-- What still belongs to a message in a phase.
use Rattle.std.proofs.Common.{◌≡◌, ◌≢◌, ℕ, zero, suc, ◌+◌, ◌-◌, Bool, true, false, cond, ◌&&◌, ◌||◌, List, [], ◌∷◌, ◌++◌, length, replicate, refl, sym, ap, ◌∙◌, arith, inl, inr, eqb}
use Rattle.std.proofs.lemmas.Bool.{cases_eq, eq-eqb, ne_eqb}
use Rattle.agency_wires.specs.declared.phase.Phase.{Phase}
use Rattle.agency_wires.specs.declared.phase.Phase.TheVariants.{Head, Text, Mark, Info}
use Rattle.agency_wires.specs.declared.phase.Step.{Step}
use Rattle.agency_wires.specs.declared.phase.Step.TheVariants.{Go, Ends}
use Rattle.agency_wires.specs.Messages.{ends_message, ends_line, before_end, is_mark, up_to_mark, from_text, from_head, messages_from}
use Rattle.agency_wires.specs.Machine.{step, Leads}

abbrev pub closed : Phase → List ℕ → List ℕ
closed Head bytes = from_head bytes
closed Text bytes = from_text bytes
closed (Mark n) bytes = cond (is_mark n bytes) (replicate n 78) (up_to_mark false bytes)
closed Info bytes = up_to_mark false bytes

-- where a line begins
line_begins : (bytes : List ℕ) → up_to_mark true bytes ≡ closed (Mark 4) bytes
line_begins [] = refl
line_begins (b ∷ bytes) = refl

line_goes : (t : Bool) (bytes : List ℕ) → up_to_mark t bytes ≡ closed (cond t (Mark 4) Info) bytes
line_goes true bytes = line_begins bytes
line_goes false bytes = refl

head_goes : (t : Bool) (bytes : List ℕ) → cond t (from_text bytes) (from_head bytes) ≡ closed (cond t Text Head) bytes
head_goes true bytes = refl
head_goes false bytes = refl

text_goes : (t : Bool) (bytes : List ℕ) → cond t (up_to_mark true bytes) (from_text bytes) ≡ closed (cond t (Mark 4) Text) bytes
text_goes true bytes = line_begins bytes
text_goes false bytes = refl

letter_goes : (t : Bool) (n : ℕ) (bytes : List ℕ) → cond t (replicate (suc n) 78) (78 ∷ up_to_mark false bytes) ≡ 78 ∷ cond t (replicate n 78) (up_to_mark false bytes)
letter_goes true n bytes = refl
letter_goes false n bytes = refl

go_same : {p q : Phase} → Go p ≡ Go q → p ≡ q
go_same e = cc

-- in a line that lacks no letter
full_goes : (q : Phase) (b : ℕ) (bytes : List ℕ) (t : Bool) → ends_line b ≡ t → cond t Ends (Go Info) ≡ Go q → cond t [] (b ∷ up_to_mark t bytes) ≡ b ∷ closed q bytes
full_goes q b bytes true d e = cc
full_goes q b bytes false d e = ap (λ r. b ∷ closed r bytes) (go_same e)

other_goes : (q : Phase) (b : ℕ) (bytes : List ℕ) (t : Bool) → cond t (Go (Mark 4)) (Go Info) ≡ Go q → b ∷ up_to_mark t bytes ≡ b ∷ closed q bytes
other_goes q b bytes true e = ap (λ z. b ∷ z) (line_begins bytes) ∙ ap (λ r. b ∷ closed r bytes) (go_same e)
other_goes q b bytes false e = ap (λ r. b ∷ closed r bytes) (go_same e)

-- in a line that lacks letters
abbrev lacking : Bool → ℕ → ℕ → Step
lacking t n b = cond t (Go (Mark n)) (cond (ends_line b) (Go (Mark 4)) (Go Info))

pub step_lacking : (n b : ℕ) → step (Mark (suc n)) b ≡ lacking (eqb b 78) n b
step_lacking n b =
    let less : suc n - 1 ≡ n = omega arith in
    ap (λ t. cond t (cond (ends_line b) Ends (Go Info)) (lacking (eqb b 78) (suc n - 1) b)) (ne_eqb (suc n) 0 (omega arith)) ∙ ap (λ k. lacking (eqb b 78) k b) less

pub step_goes : (p q : Phase) (b : ℕ) (bytes : List ℕ) → step p b ≡ Go q → closed p (b ∷ bytes) ≡ b ∷ closed q bytes
step_goes Head q b bytes e = ap (λ z. b ∷ z) (head_goes (eqb b 2) bytes ∙ ap (λ r. closed r bytes) (go_same e))
step_goes Text q b bytes e = ap (λ z. b ∷ z) (text_goes (eqb b 3) bytes ∙ ap (λ r. closed r bytes) (go_same e))
step_goes Info q b bytes e = ap (λ z. b ∷ z) (line_goes (ends_line b) bytes ∙ ap (λ r. closed r bytes) (go_same e))
step_goes (Mark zero) q b bytes e = full_goes q b bytes (ends_line b) refl e
step_goes (Mark (suc n)) q b bytes e =
    elim (cases_eq b 78) [
      | inl l ↦
          let there = step_lacking n b ∙ ap (λ t. lacking t n b) (eq-eqb b 78 l) in
          ap (λ z. closed (Mark (suc n)) (z ∷ bytes)) l ∙ letter_goes (is_mark n bytes) n bytes
          ∙ ap (λ z. 78 ∷ closed z bytes) (go_same (sym there ∙ e)) ∙ ap (λ z. z ∷ closed q bytes) (sym l)
      | inr l ↦
          let here = ap (λ z. cond (z && is_mark n bytes) (replicate (suc n) 78) (b ∷ up_to_mark (ends_line b) bytes)) (ne_eqb b 78 l) in
          let there = step_lacking n b ∙ ap (λ t. lacking t n b) (ne_eqb b 78 l) in
          here ∙ other_goes q b bytes (ends_line b) (sym there ∙ e)
    ]

-- ---- a byte that ends a message

full_ends : (t : Bool) (xs : List ℕ) → cond t Ends (Go Info) ≡ Ends → cond t [] xs ≡ []
full_ends true xs e = refl
full_ends false xs e = cc

none_ends : (t : Bool) (p q : Phase) → cond t (Go p) (Go q) ≢ Ends
none_ends true p q = λ e. cc
none_ends false p q = λ e. cc

lacking_ends : (t : Bool) (n b : ℕ) → lacking t n b ≢ Ends
lacking_ends true n b = λ e. cc
lacking_ends false n b = none_ends (ends_line b) (Mark 4) Info

pub step_ends : (p : Phase) (b : ℕ) (bytes : List ℕ) → step p b ≡ Ends → closed p (b ∷ bytes) ≡ []
step_ends Head b bytes e = cc
step_ends Text b bytes e = cc
step_ends Info b bytes e = cc
step_ends (Mark zero) b bytes e = full_ends (ends_line b) (b ∷ up_to_mark (ends_line b) bytes) e
step_ends (Mark (suc n)) b bytes e = absurd (lacking_ends (eqb b 78) n b (sym (step_lacking n b) ∙ e))

pub closed_nil : (p : Phase) → closed p [] ≡ []
closed_nil Head = refl
closed_nil Text = refl
closed_nil (Mark zero) = refl
closed_nil (Mark (suc n)) = refl
closed_nil Info = refl

-- ---- the bytes that came lead on

pub no_soh : (b : ℕ) → ends_message b ≡ false → b ≢ 1
no_soh b e = λ l. let there = ap (λ t. t || eqb b 4) (eq-eqb b 1 l) in cc

pub before_more : (b : ℕ) (bytes : List ℕ) → ends_message b ≡ false → before_end (b ∷ bytes) ≡ b ∷ before_end bytes
before_more b bytes e = ap (λ t. cond t [] (b ∷ before_end bytes)) e

pub before_last : (b : ℕ) (bytes : List ℕ) → ends_message b ≡ true → before_end (b ∷ bytes) ≡ []
before_last b bytes e = ap (λ t. cond t [] (b ∷ before_end bytes)) e

pub leads_closed : (p q : Phase) (held more : List ℕ) → Leads p held q → closed p (before_end (held ++ more)) ≡ held ++ closed q (before_end more)
leads_closed p q [] more h = ap (λ r. closed r (before_end more)) h
leads_closed p q (b ∷ held) more h =
    ap (closed p) (before_more b (held ++ more) h.0) ∙ step_goes p h.1 b (before_end (held ++ more)) h.2 ∙ ap (λ z. b ∷ z) (leads_closed h.1 q held more h.3)

pub skipped : (at b : ℕ) (more : List ℕ) → b ≢ 1 → messages_from (at + 1) more ≡ messages_from at (b ∷ more)
skipped at b more other = rw (ne_eqb b 1 other) refl

pub messages_held : (p q : Phase) (held more : List ℕ) (at : ℕ) → Leads p held q → messages_from at (held ++ more) ≡ messages_from (at + length held) more
messages_held p q [] more at h = ap (λ n. messages_from n more) (omega arith)
messages_held p q (b ∷ held) more at h = sym (skipped at b (held ++ more) (no_soh b h.0)) ∙ messages_held h.1 q held more (at + 1) h.3 ∙ ap (λ n. messages_from n more) (omega arith)
