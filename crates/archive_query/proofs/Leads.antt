-- The tokens of a query lead the reader to that query.
use Rattle.std.proofs.Common.{◌≡◌, ◌⊎◌, inl, inr, ℕ, ◌+◌, ◌<◌, ◌≤◌, ◌^◌, Bool, List, [], ◌∷◌, ◌++◌, length, Option, Some, Result, Ok, Err, refl, sym, ap, subst, ◌∙◌, arith}
use Rattle.std.specs.Prelude.{codes, decimal, option_map, if◌then◌else◌}
use Rattle.std.proofs.lemmas.Bool.{lt-ltb}
use Rattle.news_types.specs.declared.words.Kind.{Kind}
use Rattle.news_types.specs.Names.{Bytes}
use Rattle.archive_query.specs.declared.words.TextField.{TextField}
use Rattle.archive_query.specs.declared.words.TextField.TheVariants.{Slugline, Headline, Byline, Language, Category, Body}
use Rattle.archive_query.specs.declared.words.NumberField.{NumberField}
use Rattle.archive_query.specs.declared.words.NumberField.TheVariants as field
use Rattle.archive_query.specs.declared.words.TextOperator.{TextOperator}
use Rattle.archive_query.specs.declared.words.NumberOperator.{NumberOperator}
use Rattle.archive_query.specs.Words.{text_field_word, number_field_word, text_operator_word, number_operator_word, act_word}
use Rattle.archive_query.specs.Query.{Test, Text, Number, Act, Query, Tested, And, Or}
use Rattle.archive_query.specs.Grammar.{SpellsTest, Part, unit, all, any, Reads, test, negation, group, one, both, only, either, Spells, text_said}
use Rattle.archive_query.specs.Reading.{Waits, Opened, Negation, Group, Wants, AUnit, ATextOperator, AText, ANumberOperator, ANumber, AnActOperator, AnAct, AJoint, State, nothing_waits, start, all_joined, any_joined, closed, put, Refusal, wanting, putting, opening, field_wants, unit_step, closing, joint_step, step, ended, then_run, run}
use Rattle.archive_query.proofs.Naming.{text_operator_itself, number_operator_itself, act_itself}
use Rattle.archive_query.proofs.Decimals.{decimal_itself}

-- a state by its parts
abbrev pub at : List Opened → Waits → Wants → State
at levels waits wants = record { levels = levels; waits = waits; wants = wants }

abbrev pub waiting : List Query → List Query → Waits
waiting os ps = record { any = os; all = ps }

-- ---- one token

pub run_step : (most : ℕ) (s t : State) (word : Bytes) (words : List Bytes) → step most s word ≡ Ok t → run most s (word ∷ words) ≡ run most t words
unfolding run
run_step most s t word words is = ap (λ (r : Result State Refusal). then_run r (word ∷ words) (λ t. run most t words)) is

module _ (most : ℕ) (levels : List Opened) (waits : Waits) where
  step_text_field : (f : TextField) → step most (at levels waits AUnit) (text_field_word f) ≡ Ok (at levels waits (ATextOperator f))
  unfolding unit_step field_wants
  step_text_field Slugline = refl
  step_text_field Headline = refl
  step_text_field Byline = refl
  step_text_field Language = refl
  step_text_field Category = refl
  step_text_field Body = refl

  step_number_field : (f : NumberField) → step most (at levels waits AUnit) (number_field_word f) ≡ Ok (at levels waits (ANumberOperator f))
  unfolding unit_step field_wants
  step_number_field field.Number = refl
  step_number_field field.Item = refl
  step_number_field field.Version = refl
  step_number_field field.Urgency = refl
  step_number_field field.Release = refl

  step_act : step most (at levels waits AUnit) (codes "act") ≡ Ok (at levels waits AnActOperator)
  unfolding unit_step field_wants
  step_act = refl

  step_open : (level : Opened) (inner : Waits) → length levels < most → opening most levels level inner ≡ Ok (at (level ∷ levels) inner AUnit)
  step_open level inner fits = ap (λ (b : Bool). if b then Ok (at (level ∷ levels) inner AUnit) else Err Refusal.TooDeep) (lt-ltb (length levels) most fits)

  step_negation : length levels < most → step most (at levels waits AUnit) (codes "not") ≡ Ok (at (Negation ∷ levels) waits AUnit)
  unfolding unit_step
  step_negation fits = step_open Negation waits fits

  step_group : length levels < most → step most (at levels waits AUnit) (codes "(") ≡ Ok (at (Group waits ∷ levels) nothing_waits AUnit)
  unfolding unit_step
  step_group fits = step_open (Group waits) nothing_waits fits

  step_and : (q : Query) → step most (at levels waits (AJoint q)) (codes "and") ≡ Ok (at levels (waiting waits.any (waits.all ++ q ∷ [])) AUnit)
  unfolding joint_step
  step_and q = refl

  step_or : (q : Query) → step most (at levels waits (AJoint q)) (codes "or") ≡ Ok (at levels (waiting (waits.any ++ all_joined waits.all q ∷ []) []) AUnit)
  unfolding joint_step
  step_or q = refl

  pub step_close : (q : Query) → step most (at levels waits (AJoint q)) (codes ")") ≡ closing levels waits q
  unfolding joint_step
  step_close q = refl

  -- ---- the tokens of a test

  pub text_ends : (f : TextField) (o : TextOperator) (value token : Bytes) (to : List Bytes) → text_said token ≡ Some value → run most (at levels waits (AText f o)) (token ∷ to) ≡ run most (put levels waits (Tested (Text f o value))) to
  text_ends f o value token to said = run_step most (at levels waits (AText f o)) (put levels waits (Tested (Text f o value))) token to (ap (λ (v : Option Bytes). putting levels waits (option_map (Text f o) v)) said)

  pub text_goes_on : (f : TextField) (o : TextOperator) (words : List Bytes) → run most (at levels waits (ATextOperator f)) (text_operator_word o ∷ words) ≡ run most (at levels waits (AText f o)) words
  text_goes_on f o words = run_step most (at levels waits (ATextOperator f)) (at levels waits (AText f o)) (text_operator_word o) words (ap (λ (v : Option TextOperator). wanting levels waits (option_map (AText f) v)) (text_operator_itself o))

  pub number_ends : (f : NumberField) (o : NumberOperator) (value : ℕ) (token : Bytes) (to : List Bytes) → token ≡ decimal value → value < 2 ^ 64 → run most (at levels waits (ANumber f o)) (token ∷ to) ≡ run most (put levels waits (Tested (Number f o value))) to
  number_ends f o value token to is fits =
      run_step most (at levels waits (ANumber f o)) (put levels waits (Tested (Number f o value))) token to (ap (λ (v : Option ℕ). putting levels waits (option_map (Number f o) v)) (decimal_itself token value is fits))

  pub number_goes_on : (f : NumberField) (o : NumberOperator) (words : List Bytes) → run most (at levels waits (ANumberOperator f)) (number_operator_word o ∷ words) ≡ run most (at levels waits (ANumber f o)) words
  number_goes_on f o words = run_step most (at levels waits (ANumberOperator f)) (at levels waits (ANumber f o)) (number_operator_word o) words (ap (λ (v : Option NumberOperator). wanting levels waits (option_map (ANumber f) v)) (number_operator_itself o))

  pub act_ends : (kind : Kind) (to : List Bytes) → run most (at levels waits AnAct) (act_word kind ∷ to) ≡ run most (put levels waits (Tested (Act kind))) to
  act_ends kind to = run_step most (at levels waits AnAct) (put levels waits (Tested (Act kind))) (act_word kind) to (ap (λ (v : Option Kind). putting levels waits (option_map Act v)) (act_itself kind))

  pub act_goes_on : (words : List Bytes) → run most (at levels waits AnActOperator) (codes "is" ∷ words) ≡ run most (at levels waits AnAct) words
  act_goes_on words = run_step most (at levels waits AnActOperator) (at levels waits AnAct) (codes "is") words refl

  pub test_leads : (t : Test) (first second third : Bytes) (to : List Bytes) → SpellsTest t first second third → run most (at levels waits AUnit) (first ∷ second ∷ third ∷ to) ≡ run most (put levels waits (Tested t)) to
  test_leads (Text f o value) first second third to h =
      ap (λ (w : Bytes). run most (at levels waits AUnit) (w ∷ second ∷ third ∷ to)) h.0 ∙ run_step most (at levels waits AUnit) (at levels waits (ATextOperator f)) (text_field_word f) (second ∷ third ∷ to) (step_text_field f)
      ∙ ap (λ (w : Bytes). run most (at levels waits (ATextOperator f)) (w ∷ third ∷ to)) h.1 ∙ text_goes_on f o (third ∷ to)
      ∙ text_ends f o value third to h.2
  test_leads (Number f o value) first second third to h =
      ap (λ (w : Bytes). run most (at levels waits AUnit) (w ∷ second ∷ third ∷ to)) h.0 ∙ run_step most (at levels waits AUnit) (at levels waits (ANumberOperator f)) (number_field_word f) (second ∷ third ∷ to) (step_number_field f)
      ∙ ap (λ (w : Bytes). run most (at levels waits (ANumberOperator f)) (w ∷ third ∷ to)) h.1 ∙ number_goes_on f o (third ∷ to)
      ∙ number_ends f o value third to h.2 h.3
  test_leads (Act kind) first second third to h =
      ap (λ (w : Bytes). run most (at levels waits AUnit) (w ∷ second ∷ third ∷ to)) h.0 ∙ run_step most (at levels waits AUnit) (at levels waits AnActOperator) (codes "act") (second ∷ third ∷ to) step_act
      ∙ ap (λ (w : Bytes). run most (at levels waits AnActOperator) (w ∷ third ∷ to)) h.1 ∙ act_goes_on (third ∷ to)
      ∙ ap (λ (w : Bytes). run most (at levels waits AnAct) (w ∷ to)) h.2 ∙ act_ends kind to

-- ---- what waits, and what is joined

pub all_joined-last : (ps : List Query) (p q : Query) → all_joined (ps ++ p ∷ []) q ≡ all_joined ps (And p q)
all_joined-last [] p q = refl
all_joined-last (r ∷ ps) p q = ap (And r) (all_joined-last ps p q)

pub any_joined-last : (ps : List Query) (p q : Query) → any_joined (ps ++ p ∷ []) q ≡ any_joined ps (Or p q)
any_joined-last [] p q = refl
any_joined-last (r ∷ ps) p q = ap (Or r) (any_joined-last ps p q)

-- what may follow a part with `and` in it, and one with `or` in it
abbrev pub EndsAll : List Bytes → Type 0
EndsAll [] = Unit {0}
EndsAll (word ∷ words) = (word ≡ codes "or") ⊎ (word ≡ codes ")")

abbrev pub EndsAny : List Bytes → Type 0
EndsAny [] = Unit {0}
EndsAny (word ∷ words) = word ≡ codes ")"

pub any_ends : (to : List Bytes) → EndsAny to → EndsAll to
any_ends [] ends = tt
any_ends (word ∷ words) ends = inr ends

-- a group is the innermost that is open
abbrev pub IsInGroup : List Opened → Type 0
IsInGroup [] = Unit {0}
IsInGroup (Negation ∷ levels) = ⊥
IsInGroup (Group outer ∷ levels) = Unit {0}

pub put_inside : (levels : List Opened) (waits : Waits) (q : Query) → IsInGroup levels → put levels waits q ≡ at levels waits (AJoint q)
put_inside [] waits q inside = refl
put_inside (Negation ∷ levels) waits q inside = absurd inside
put_inside (Group outer ∷ levels) waits q inside = refl

module _ (most : ℕ) where
  end_alike : (levels : List Opened) (w v : Waits) (p q : Query) → closed w p ≡ closed v q → ended levels w (AJoint p) ≡ ended levels v (AJoint q)
  end_alike [] w v p q same = ap (λ (r : Query). Ok r) same
  end_alike (level ∷ levels) w v p q same = refl

  close_alike : (levels : List Opened) (w v : Waits) (p q : Query) → closed w p ≡ closed v q → closing levels w p ≡ closing levels v q
  close_alike [] w v p q same = refl
  close_alike (Negation ∷ levels) w v p q same = refl
  close_alike (Group outer ∷ levels) w v p q same = ap (λ (r : Query). Ok (put levels outer r)) same

  -- behind a group's end the same follows
  any_alike : (levels : List Opened) (w v : Waits) (p q : Query) (to : List Bytes) → EndsAny to → closed w p ≡ closed v q → run most (at levels w (AJoint p)) to ≡ run most (at levels v (AJoint q)) to
  unfolding run joint_step
  any_alike levels w v p q [] ends same = end_alike levels w v p q same
  any_alike levels w v p q (word ∷ words) ends same =
      subst (λ (c : Bytes). run most (at levels w (AJoint p)) (c ∷ words) ≡ run most (at levels v (AJoint q)) (c ∷ words)) (sym ends)
      (ap (λ (r : Result State Refusal). then_run r (codes ")" ∷ words) (λ t. run most t words)) (close_alike levels w v p q same))

  -- and behind the end of one of its parts
  all_alike : (levels : List Opened) (os ps : List Query) (p q : Query) (to : List Bytes) → EndsAll to
      → run most (at levels (waiting os (ps ++ p ∷ [])) (AJoint q)) to ≡ run most (at levels (waiting os ps) (AJoint (And p q))) to
  unfolding run joint_step
  all_alike levels os ps p q [] ends = any_alike levels (waiting os (ps ++ p ∷ [])) (waiting os ps) q (And p q) [] tt (ap (any_joined os) (all_joined-last ps p q))
  all_alike levels os ps p q (word ∷ words) ends =
      elim ends [
        | inl or ↦
            subst (λ (c : Bytes). run most (at levels (waiting os (ps ++ p ∷ [])) (AJoint q)) (c ∷ words) ≡ run most (at levels (waiting os ps) (AJoint (And p q))) (c ∷ words)) (sym or)
            (ap (λ (r : Query). run most (at levels (waiting (os ++ r ∷ []) []) AUnit) words) (all_joined-last ps p q))
        | inr close ↦ any_alike levels (waiting os (ps ++ p ∷ [])) (waiting os ps) q (And p q) (word ∷ words) close (ap (any_joined os) (all_joined-last ps p q))
      ]

  -- ---- whole parts

  abbrev pub Leads : Part → ℕ → List Bytes → List Bytes → Query → Type 0
  Leads unit deep from to q = (levels : List Opened) (waits : Waits) → length levels + deep ≤ most → run most (at levels waits AUnit) from ≡ run most (put levels waits q) to
  Leads all deep from to q = (levels : List Opened) (waits : Waits) → length levels + deep ≤ most → IsInGroup levels → EndsAll to → run most (at levels waits AUnit) from ≡ run most (at levels waits (AJoint q)) to
  Leads any deep from to q = (levels : List Opened) (ps : List Query) → length levels + deep ≤ most → IsInGroup levels → EndsAny to → run most (at levels (waiting ps []) AUnit) from ≡ run most (at levels (waiting ps []) (AJoint q)) to

  pub leads : {part : Part} {deep : ℕ} {from to : List Bytes} {q : Query} → Reads part deep from to q → Leads part deep from to q
  leads (test {to = to} {t = t} h) = λ levels waits fits. test_leads most levels waits t _ _ _ to h
  leads (negation {from = from} {to = to} {q = q} r) = λ levels waits fits.
      run_step most (at levels waits AUnit) (at (Negation ∷ levels) waits AUnit) (codes "not") from (step_negation most levels waits (omega arith))
      ∙ leads r (Negation ∷ levels) waits (omega arith)
  leads (group {from = from} {to = to} {q = q} r) = λ levels waits fits.
      run_step most (at levels waits AUnit) (at (Group waits ∷ levels) nothing_waits AUnit) (codes "(") from (step_group most levels waits (omega arith))
      ∙ leads r (Group waits ∷ levels) [] (omega arith) tt refl
      ∙ run_step most (at (Group waits ∷ levels) nothing_waits (AJoint q)) (put levels waits q) (codes ")") to (step_close most (Group waits ∷ levels) nothing_waits q)
  leads (one {to = to} {q = q} r) = λ levels waits fits inside ends. leads r levels waits fits ∙ ap (λ (s : State). run most s to) (put_inside levels waits q inside)
  leads (both {middle = middle} {to = to} {q = q} {r = p} r s) = λ levels waits fits inside ends.
      leads r levels waits fits ∙ ap (λ (s : State). run most s (codes "and" ∷ middle)) (put_inside levels waits q inside)
      ∙ run_step most (at levels waits (AJoint q)) (at levels (waiting waits.any (waits.all ++ q ∷ [])) AUnit) (codes "and") middle (step_and most levels waits q)
      ∙ leads s levels (waiting waits.any (waits.all ++ q ∷ [])) fits inside ends
      ∙ all_alike levels waits.any waits.all q p to ends
  leads (only {to = to} r) = λ levels ps fits inside ends. leads r levels (waiting ps []) fits inside (any_ends to ends)
  leads (either {middle = middle} {to = to} {q = q} {r = p} r s) = λ levels ps fits inside ends.
      leads r levels (waiting ps []) fits inside (inl refl)
      ∙ run_step most (at levels (waiting ps []) (AJoint q)) (at levels (waiting (ps ++ q ∷ []) []) AUnit) (codes "or") middle (step_or most levels (waiting ps []) q)
      ∙ leads s levels (ps ++ q ∷ []) fits inside ends
      ∙ any_alike levels (waiting (ps ++ q ∷ []) []) (waiting ps []) p (Or q p) to ends (any_joined-last ps q p)

  -- what spells a query is read as that query
  pub spelled_reads : (deep : ℕ) (words : List Bytes) (q : Query) → deep ≤ most → Spells deep words q → run most start words ≡ Ok q
  unfolding run
  spelled_reads deep words q fits r = leads r [] [] (omega arith) tt tt
