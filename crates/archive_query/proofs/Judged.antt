-- What reading the tokens of a text says of it.
use Rattle.std.proofs.Common.{◌≡◌, ◌⊎◌, inl, inr, ℕ, ◌≤◌, max, List, [], ◌∷◌, ◌++◌, length, Option, Some, None, Result, Ok, Err, refl, sym, ap, subst, ◌∙◌, arith, lit<, lit≤, append-nil, append_assoc}
use Rattle.std.specs.Prelude.{nat_lt, codes, decimal, if◌then◌else◌}
use Rattle.std.proofs.lemmas.Bool.{lt-ltb}
use Rattle.serde_json.proofs.OnLiterals.{serde_json_on_literals}
use Rattle.news_types.specs.declared.words.Kind.TheVariants.{First}
use Rattle.news_types.specs.Names.{Bytes, same}
use Rattle.archive_query.specs.declared.words.NumberField.TheVariants as field
use Rattle.archive_query.specs.declared.words.TextOperator.TheVariants as text
use Rattle.archive_query.specs.declared.words.NumberOperator.TheVariants as number
use Rattle.archive_query.specs.Query.{Test, Text, Number, Act, Query, Tested, Not}
use Rattle.archive_query.specs.Grammar.{Spells, GoesOn, IsBad, IsDeep, text_said}
use Rattle.archive_query.specs.Reading.{Waits, Opened, Negation, Group, Wants, AUnit, ATextOperator, AText, ANumberOperator, ANumber, AnActOperator, AnAct, AJoint, State, nothing_waits, start, closed, put, Refusal, wanting, putting, opening, field_wants, unit_step, closing, joint_step, step, Refused, ended, then_run, run}
use Rattle.archive_query.proofs.Leads.{at, run_step, text_ends, text_goes_on, number_ends, number_goes_on, act_ends, act_goes_on, test_leads, step_close, IsInGroup, put_inside, spelled_reads}
use Rattle.archive_query.proofs.Stands.{chosen, opening_is, Holds, IsBetween, stands_deep, start_holds, step_holds, run_spells}

-- ---- the state behind some tokens

abbrev then_reach : Result State Refusal → (State → Option State) → Option State
then_reach (Ok s) next = next s
then_reach (Err why) next = None

unfoldable reach : ℕ → State → List Bytes → Option State
reach most s [] = Some s
reach most s (word ∷ words) = then_reach (step most s word) (λ t. reach most t words)

some_state : (s t : State) → Some s ≡ Some t → s ≡ t
some_state s t h = cc

refused_is : (r s : Refused) → ◌≡◌ {A = Result Query Refused} (Err r) (Err s) → r ≡ s
refused_is r s h = cc

run_reach : (most : ℕ) (s : State) (front more : List Bytes) (t : State) → reach most s front ≡ Some t → run most s (front ++ more) ≡ run most t more
unfolding reach run
run_reach most s [] more t h = ap (λ (u : State). run most u more) (some_state s t h)
run_reach most s (word ∷ front) more t h =
    elim (step most s word) as (λ (r : Result State Refusal). then_reach r (λ u. reach most u front) ≡ Some t → then_run r (word ∷ front ++ more) (λ u. run most u (front ++ more)) ≡ run most t more) [
      | Ok u ↦ λ reached. run_reach most u front more t reached
      | Err why ↦ λ stopped. absurd cc
    ] h

reach_holds : (most : ℕ) (origin : List Bytes) (s : State) (front more : List Bytes) (t : State) → Holds most origin s (front ++ more) → reach most s front ≡ Some t → Holds most origin t more
unfolding reach
reach_holds most origin s [] more t holds h = subst (λ (u : State). Holds most origin u more) (some_state s t h) holds
reach_holds most origin s (word ∷ front) more t holds h =
    elim (step most s word) as (λ (r : Result State Refusal). step most s word ≡ r → then_reach r (λ u. reach most u front) ≡ Some t → Holds most origin t more) [
      | Ok u ↦ λ moved reached. reach_holds most origin u front more t (step_holds most origin s u word (front ++ more) holds moved) reached
      | Err why ↦ λ moved stopped. absurd cc
    ] refl h

-- ---- where a run is refused

-- nothing goes on from there
abbrev IsRefused : ℕ → State → Refusal → List Bytes → Type 0
IsRefused most t why [] = ended t.levels t.waits t.wants ≡ Err (record { why = why; rest = [] })
IsRefused most t why (word ∷ words) = step most t word ≡ Err why

abbrev Refuses : ℕ → State → List Bytes → Refusal → List Bytes → Type 0
Refuses most s words why rest = (front : List Bytes) × (t : State) × (words ≡ front ++ rest) × (reach most s front ≡ Some t) × IsRefused most t why rest

end_refused : (levels : List Opened) (waits : Waits) (wants : Wants) (r : Refused) → ended levels waits wants ≡ Err r → record { why = Refusal.Misplaced; rest = [] } ≡ r
end_refused (level ∷ levels) waits wants r h = refused_is (record { why = Refusal.Misplaced; rest = [] }) r h
end_refused [] waits (AJoint q) r h = absurd cc
end_refused [] waits wants r h = refused_is (record { why = Refusal.Misplaced; rest = [] }) r h

run_refused : (most : ℕ) (words : List Bytes) (s : State) (r : Refused) → run most s words ≡ Err r → Refuses most s words r.why r.rest
unfolding reach run
run_refused most [] s r h =
    let is = end_refused s.levels s.waits s.wants r h in
    subst (λ (x : Refused). Refuses most s [] x.why x.rest) is ([], s, refl, refl, h ∙ ap (λ (x : Refused). Err x) (sym is))
run_refused most (word ∷ words) s r h =
    elim (step most s word) as (λ (x : Result State Refusal). step most s word ≡ x → then_run x (word ∷ words) (λ u. run most u words) ≡ Err r → Refuses most s (word ∷ words) r.why r.rest) [
      | Ok u ↦ λ moved later.
          let rec = run_refused most words u r later in
          (word ∷ rec.0, rec.1, ap (λ (l : List Bytes). word ∷ l) rec.2, ap (λ (x : Result State Refusal). then_reach x (λ u. reach most u rec.0)) moved ∙ rec.3, rec.4)
      | Err why ↦ λ stopped here.
          subst (λ (x : Refused). Refuses most s (word ∷ words) x.why x.rest) (refused_is (record { why = why; rest = word ∷ words }) r here) ([], s, refl, refl, stopped)
    ] refl h

-- ---- more levels

-- the first token of a unit opens a level, or it needs none
unit_opens : (levels : List Opened) (waits : Waits) (word : Bytes)
    → ((level : Opened) × (inner : Waits) × ((most : ℕ) → unit_step most levels waits word ≡ opening most levels level inner)) ⊎ ((most : ℕ) → unit_step most levels waits word ≡ wanting levels waits (field_wants word))
unfolding unit_step
unit_opens levels waits word =
    elim (chosen {A = ℕ} (same word (codes "(")) 0 1 (if same word (codes "(") then 0 else 1) refl) [
      | inl is ↦ inl (Group waits, nothing_waits, λ most. rw is.0 refl)
      | inr not_open ↦ elim (chosen {A = ℕ} (same word (codes "not")) 0 1 (if same word (codes "not") then 0 else 1) refl) [
        | inl is ↦ inl (Negation, waits, λ most. rw (not_open.0, is.0) refl)
        | inr not_not ↦ inr (λ most. rw (not_open.0, not_not.0) refl)
      ]
    ]

module _ (most more : ℕ) (fits : most ≤ more) where
  abbrev KeepsStep : Wants → Type 0
  KeepsStep wants = (levels : List Opened) (waits : Waits) (word : Bytes) → ((t : State) → step most (at levels waits wants) word ≡ Ok t → step more (at levels waits wants) word ≡ Ok t)
      × (step most (at levels waits wants) word ≡ Err Refusal.Misplaced → step more (at levels waits wants) word ≡ Err Refusal.Misplaced)

  opening_more : (levels : List Opened) (level : Opened) (inner : Waits) (t : State) → opening most levels level inner ≡ Ok t → opening more levels level inner ≡ Ok t
  opening_more levels level inner t h =
      let o = opening_is most levels level inner t h in
      rw (lt-ltb (length levels) more (omega (arith, o.0))) (ap (λ (u : State). Ok u) (sym o.1))

  opening_never : (levels : List Opened) (level : Opened) (inner : Waits) → opening most levels level inner ≡ Err Refusal.Misplaced → ⊥
  opening_never levels level inner h =
      elim (chosen (nat_lt (length levels) most) (Ok (at (level ∷ levels) inner AUnit)) (Err Refusal.TooDeep) (Err Refusal.Misplaced) h) [ inl room ↦ absurd cc | inr full ↦ absurd cc ]

  keeps_unit : KeepsStep AUnit
  keeps_unit levels waits word =
      elim (unit_opens levels waits word) [
        | inl o ↦ (λ t h. o.2 more ∙ opening_more levels o.0 o.1 t (sym (o.2 most) ∙ h), λ h. absurd (opening_never levels o.0 o.1 (sym (o.2 most) ∙ h)))
        | inr w ↦ (λ t h. w more ∙ (sym (w most) ∙ h), λ h. w more ∙ (sym (w most) ∙ h))
      ]

  keeps_step : (wants : Wants) → KeepsStep wants
  keeps_step AUnit = keeps_unit
  keeps_step (ATextOperator f) = λ levels waits word. (λ t h. h, λ h. h)
  keeps_step (AText f o) = λ levels waits word. (λ t h. h, λ h. h)
  keeps_step (ANumberOperator f) = λ levels waits word. (λ t h. h, λ h. h)
  keeps_step (ANumber f o) = λ levels waits word. (λ t h. h, λ h. h)
  keeps_step AnActOperator = λ levels waits word. (λ t h. h, λ h. h)
  keeps_step AnAct = λ levels waits word. (λ t h. h, λ h. h)
  keeps_step (AJoint q) = λ levels waits word. (λ t h. h, λ h. h)

  reach_more : (front : List Bytes) (s t : State) → reach most s front ≡ Some t → reach more s front ≡ Some t
  unfolding reach
  reach_more [] s t h = h
  reach_more (word ∷ front) s t h =
      elim (step most s word) as (λ (x : Result State Refusal). step most s word ≡ x → then_reach x (λ u. reach most u front) ≡ Some t → then_reach (step more s word) (λ u. reach more u front) ≡ Some t) [
        | Ok u ↦ λ moved reached. ap (λ (x : Result State Refusal). then_reach x (λ u. reach more u front)) ((keeps_step s.wants s.levels s.waits word).0 u moved) ∙ reach_more front u t reached
        | Err why ↦ λ stopped none. absurd cc
      ] refl h

  -- where a token is misplaced, it is so with more levels
  still_refused : (t : State) (rest : List Bytes) (q : Query) → IsRefused most t Refusal.Misplaced rest → run more t rest ≡ Ok q → ⊥
  unfolding run
  still_refused t [] q h is = absurd cc
  still_refused t (word ∷ rest) q h is =
      let no = (keeps_step t.wants t.levels t.waits word).1 h in
      let stops = ap (λ (x : Result State Refusal). then_run x (word ∷ rest) (λ u. run more u rest)) no in
      absurd cc

-- ---- what goes on

closings : List Opened → List Bytes
closings [] = []
closings (Negation ∷ levels) = closings levels
closings (Group outer ∷ levels) = codes ")" ∷ closings levels

quotes_said : text_said (34 ∷ 34 ∷ []) ≡ Some []
unfolding serde_json_on_literals
quotes_said = refl

abbrev IsFit : List Opened → Wants → Type 0
IsFit levels (AJoint q) = IsInGroup levels
IsFit levels _ = Unit {0}

module _ (most : ℕ) where
  abbrev Ends : State → List Bytes → Type 0
  Ends s words = (q : Query) × (run most s words ≡ Ok q)

  put_ends : (levels : List Opened) (waits : Waits) (q : Query) → Ends (put levels waits q) (closings levels)
  unfolding run closings
  put_ends [] waits q = (closed waits q, refl)
  put_ends (Negation ∷ levels) waits q = put_ends levels waits (Not q)
  put_ends (Group outer ∷ levels) waits q =
      let rec = put_ends levels outer (closed waits q) in
      (rec.0, run_step most (at (Group outer ∷ levels) waits (AJoint q)) (put levels outer (closed waits q)) (codes ")") (closings levels) (step_close most (Group outer ∷ levels) waits q) ∙ rec.1)

  -- from each state there is an end
  state_ends : (levels : List Opened) (waits : Waits) (wants : Wants) → IsFit levels wants → (words : List Bytes) × Ends (at levels waits wants) words
  state_ends levels waits AUnit fit =
      let t = Number field.Number number.Is 0 in
      let rec = put_ends levels waits (Tested t) in
      (codes "number" ∷ codes "is" ∷ decimal 0 ∷ closings levels, (rec.0, test_leads most levels waits t (codes "number") (codes "is") (decimal 0) (closings levels) (refl, refl, refl, lit< tt) ∙ rec.1))
  state_ends levels waits (ATextOperator f) fit =
      let rec = put_ends levels waits (Tested (Text f text.Is [])) in
      (codes "is" ∷ (34 ∷ 34 ∷ []) ∷ closings levels, (rec.0, text_goes_on most levels waits f text.Is ((34 ∷ 34 ∷ []) ∷ closings levels) ∙ (text_ends most levels waits f text.Is [] (34 ∷ 34 ∷ []) (closings levels) quotes_said ∙ rec.1)))
  state_ends levels waits (AText f o) fit =
      let rec = put_ends levels waits (Tested (Text f o [])) in
      ((34 ∷ 34 ∷ []) ∷ closings levels, (rec.0, text_ends most levels waits f o [] (34 ∷ 34 ∷ []) (closings levels) quotes_said ∙ rec.1))
  state_ends levels waits (ANumberOperator f) fit =
      let rec = put_ends levels waits (Tested (Number f number.Is 0)) in
      (codes "is" ∷ decimal 0 ∷ closings levels, (rec.0, number_goes_on most levels waits f number.Is (decimal 0 ∷ closings levels) ∙ (number_ends most levels waits f number.Is 0 (decimal 0) (closings levels) refl (lit< tt) ∙ rec.1)))
  state_ends levels waits (ANumber f o) fit =
      let rec = put_ends levels waits (Tested (Number f o 0)) in
      (decimal 0 ∷ closings levels, (rec.0, number_ends most levels waits f o 0 (decimal 0) (closings levels) refl (lit< tt) ∙ rec.1))
  state_ends levels waits AnActOperator fit =
      let rec = put_ends levels waits (Tested (Act First)) in
      (codes "is" ∷ codes "first" ∷ closings levels, (rec.0, act_goes_on most levels waits (codes "first" ∷ closings levels) ∙ (act_ends most levels waits First (closings levels) ∙ rec.1)))
  state_ends levels waits AnAct fit =
      let rec = put_ends levels waits (Tested (Act First)) in
      (codes "first" ∷ closings levels, (rec.0, act_ends most levels waits First (closings levels) ∙ rec.1))
  state_ends levels waits (AJoint q) fit =
      let rec = put_ends levels waits q in
      (closings levels, (rec.0, ap (λ (s : State). run most s (closings levels)) (sym (put_inside levels waits q fit)) ∙ rec.1))

  is_fit : (origin : List Bytes) (levels : List Opened) (wants : Wants) (deep : ℕ) (to rest : List Bytes) → IsBetween most origin levels wants deep to rest → IsFit levels wants
  is_fit origin levels (AJoint q) deep to rest h = h.1
  is_fit origin levels AUnit deep to rest h = tt
  is_fit origin levels (ATextOperator f) deep to rest h = tt
  is_fit origin levels (AText f o) deep to rest h = tt
  is_fit origin levels (ANumberOperator f) deep to rest h = tt
  is_fit origin levels (ANumber f o) deep to rest h = tt
  is_fit origin levels AnActOperator deep to rest h = tt
  is_fit origin levels AnAct deep to rest h = tt

  -- a query goes on with tokens that were read
  reached_goes_on : (front : List Bytes) (t : State) → reach most start front ≡ Some t → GoesOn most front
  reached_goes_on front t h =
      let there = reach_holds most (front ++ []) start front [] t (start_holds most (front ++ [])) h in
      let end = state_ends t.levels t.waits t.wants (is_fit (front ++ []) t.levels t.wants there.deep there.to [] there.between) in
      (end.0, end.1.0, run_spells most (front ++ end.0) (front ++ end.0) start end.1.0 (start_holds most (front ++ end.0)) (run_reach most start front end.0 t h ∙ end.1.1))

-- ---- the verdicts

pub read_spells : (words : List Bytes) (q : Query) → run 32 start words ≡ Ok q → Spells 32 words q
read_spells words q h = run_spells 32 words words start q (start_holds 32 words) h

abbrev pub IsVerdict : Refusal → List Bytes → List Bytes → Type 0
IsVerdict Refusal.Misplaced front rest = IsBad front rest
IsVerdict Refusal.TooDeep front rest = IsDeep front rest

-- no query of any depth has misplaced tokens
bad : (front rest : List Bytes) (t : State) → reach 32 start front ≡ Some t → IsRefused 32 t Refusal.Misplaced rest → IsBad front rest
bad front [] t reached refused = λ levels q spelled.
    let more = max levels 32 in
    let reads = spelled_reads more levels front q (omega arith) spelled in
    let there = run_reach more start front [] t (reach_more 32 more (omega arith) front start t reached) in
    still_refused 32 more (omega arith) t [] q refused (sym there ∙ (ap (run more start) (append-nil front) ∙ reads))
bad front (word ∷ rest) t reached refused = λ levels goes.
    let more = max levels 32 in
    let reads = spelled_reads more levels ((front ++ word ∷ []) ++ goes.0) goes.1 (omega arith) goes.2 in
    let there = run_reach more start front (word ∷ goes.0) t (reach_more 32 more (omega arith) front start t reached) in
    still_refused 32 more (omega arith) t (word ∷ goes.0) goes.1 refused (sym there ∙ (ap (run more start) (sym (append_assoc front (word ∷ []) goes.0)) ∙ reads))

wanting_never : (levels : List Opened) (waits : Waits) (wants : Option Wants) → wanting levels waits wants ≡ Err Refusal.TooDeep → ⊥
wanting_never levels waits None h = absurd cc
wanting_never levels waits (Some w) h = absurd cc

putting_never : (levels : List Opened) (waits : Waits) (found : Option Test) → putting levels waits found ≡ Err Refusal.TooDeep → ⊥
putting_never levels waits None h = absurd cc
putting_never levels waits (Some t) h = absurd cc

closing_never : (levels : List Opened) (waits : Waits) (q : Query) → closing levels waits q ≡ Err Refusal.TooDeep → ⊥
closing_never [] waits q h = absurd cc
closing_never (Negation ∷ levels) waits q h = absurd cc
closing_never (Group outer ∷ levels) waits q h = absurd cc

joint_never : (levels : List Opened) (waits : Waits) (q : Query) (word : Bytes) → joint_step levels waits q word ≡ Err Refusal.TooDeep → ⊥
unfolding joint_step
joint_never levels waits q word h =
    elim (chosen (same word (codes "and")) _ _ _ h) [
      | inl is ↦ absurd cc
      | inr other ↦ elim (chosen (same word (codes "or")) _ _ _ other.1) [
        | inl is ↦ absurd cc
        | inr behind ↦ elim (chosen (same word (codes ")")) _ _ _ behind.1) [ inl is ↦ closing_never levels waits q is.1 | inr none ↦ absurd cc ]
      ]
    ]

-- only one level more is too deep
deep_step : (levels : List Opened) (waits : Waits) (wants : Wants) (word : Bytes) → length levels ≤ 32 → step 32 (at levels waits wants) word ≡ Err Refusal.TooDeep → (u : State) × (step 33 (at levels waits wants) word ≡ Ok u)
deep_step levels waits AUnit word fits h =
    elim (unit_opens levels waits word) [
      | inl o ↦ (at (o.0 ∷ levels) o.1 AUnit, o.2 33 ∙ rw (lt-ltb (length levels) 33 (omega arith)) refl)
      | inr w ↦ absurd (wanting_never levels waits (field_wants word) (sym (w 32) ∙ h))
    ]
deep_step levels waits (ATextOperator f) word fits h = absurd (wanting_never levels waits _ h)
deep_step levels waits (AText f o) word fits h = absurd (putting_never levels waits _ h)
deep_step levels waits (ANumberOperator f) word fits h = absurd (wanting_never levels waits _ h)
deep_step levels waits (ANumber f o) word fits h = absurd (putting_never levels waits _ h)
deep_step levels waits AnActOperator word fits h = absurd (wanting_never levels waits _ h)
deep_step levels waits AnAct word fits h = absurd (putting_never levels waits _ h)
deep_step levels waits (AJoint q) word fits h = absurd (joint_never levels waits q word h)

reach_last : (most : ℕ) (front : List Bytes) (s t : State) (word : Bytes) (u : State) → reach most s front ≡ Some t → step most t word ≡ Ok u → reach most s (front ++ word ∷ []) ≡ Some u
unfolding reach
reach_last most [] s t word u h moved = ap (λ (x : Result State Refusal). then_reach x (λ (v : State). Some v)) (ap (λ (v : State). step most v word) (some_state s t h) ∙ moved)
reach_last most (w ∷ front) s t word u h moved =
    elim (step most s w) as (λ (x : Result State Refusal). then_reach x (λ v. reach most v front) ≡ Some t → then_reach x (λ v. reach most v (front ++ word ∷ [])) ≡ Some u) [
      | Ok v ↦ λ reached. reach_last most front v t word u reached moved
      | Err why ↦ λ none. absurd cc
    ] h

stops : (most : ℕ) (t : State) (why : Refusal) (word : Bytes) (rest : List Bytes) (q : Query) → step most t word ≡ Err why → run most t (word ∷ rest) ≡ Ok q → ⊥
unfolding run
stops most t why word rest q h is =
    let stopped = ap (λ (x : Result State Refusal). then_run x (word ∷ rest) (λ u. run most u rest)) h in
    absurd cc

deep : (front rest : List Bytes) (t : State) → reach 32 start front ≡ Some t → IsRefused 32 t Refusal.TooDeep rest → IsDeep front rest
deep front [] t reached refused =
    let is = end_refused t.levels t.waits t.wants (record { why = Refusal.TooDeep; rest = [] }) refused in
    let why = ap (λ (r : Refused). r.why) is in
    absurd cc
deep front (word ∷ rest) t reached refused =
    let there = reach_holds 32 (front ++ []) start front [] t (start_holds 32 (front ++ [])) reached in
    let few = stands_deep 32 (front ++ []) there.deep t.levels t.waits there.to there.stands in
    let moved = deep_step t.levels t.waits t.wants word (omega arith) refused in (
      reached_goes_on 33 (front ++ word ∷ []) moved.0 (reach_last 33 front start t word moved.0 (reach_more 32 33 (lit≤ tt) front start t reached) moved.1),
      λ goes.
          let reads = spelled_reads 32 32 ((front ++ word ∷ []) ++ goes.0) goes.1 (lit≤ tt) goes.2 in
          let here = run_reach 32 start front (word ∷ goes.0) t reached in
          stops 32 t Refusal.TooDeep word goes.0 goes.1 refused (sym here ∙ (ap (run 32 start) (sym (append_assoc front (word ∷ []) goes.0)) ∙ reads)),
    )

verdict : (why : Refusal) (front rest : List Bytes) (t : State) → reach 32 start front ≡ Some t → IsRefused 32 t why rest → IsVerdict why front rest
verdict Refusal.Misplaced front rest t reached refused = bad front rest t reached refused
verdict Refusal.TooDeep front rest t reached refused = deep front rest t reached refused

pub refused_judged : (words : List Bytes) (r : Refused) → run 32 start words ≡ Err r → (front : List Bytes) × (words ≡ front ++ r.rest) × GoesOn 32 front × IsVerdict r.why front r.rest
refused_judged words r h =
    let there = run_refused 32 words start r h in
    (there.0, there.2, reached_goes_on 32 there.0 there.1 there.3, verdict r.why there.0 r.rest there.1 there.3 there.4)

-- a text spells one query at most
pub spells_one : (words : List Bytes) (a b : ℕ) (q r : Query) → Spells a words q → Spells b words r → q ≡ r
spells_one words a b q r spells_q spells_r =
    let first = spelled_reads (max a b) a words q (omega arith) spells_q in
    let second = spelled_reads (max a b) b words r (omega arith) spells_r in
    cc
