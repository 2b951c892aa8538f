-- What the reader has read is spelled so.
use Rattle.std.proofs.Common.{◌≡◌, ◌⊎◌, inl, inr, ℕ, zero, suc, ◌+◌, ◌<◌, Bool, true, false, List, [], ◌∷◌, ◌++◌, length, Option, Some, None, Result, Ok, Err, refl, sym, ap, subst, ◌∙◌, arith}
use Rattle.std.specs.Prelude.{nat_lt, codes, option_map, if◌then◌else◌}
use Rattle.std.proofs.lemmas.Bool.{ltb-true}
use Rattle.news_types.specs.Names.{Bytes, same}
use Rattle.news_types.proofs.Members.{same_is, some_is, none_some}
use Rattle.archive_query.specs.Words.{text_fields, number_fields, text_operators, number_operators, acts, text_field_word, text_field_of, number_field_word, number_field_of, text_operator_word, text_operator_of, number_operator_word, number_operator_of, act_word, act_of}
use Rattle.archive_query.specs.Query.{Test, Text, Number, Act, Query, Tested, Not}
use Rattle.archive_query.specs.Grammar.{unit, all, any, Reads, test, negation, group, one, both, only, either, Spells, text_said}
use Rattle.archive_query.specs.Reading.{Waits, Opened, Negation, Group, Wants, AUnit, ATextOperator, AText, ANumberOperator, ANumber, AnActOperator, AnAct, AJoint, State, nothing_waits, start, all_joined, any_joined, closed, put, Refusal, wanting, putting, opening, first_of, field_wants, unit_step, closing, joint_step, step, ended, then_run, run, decimal_said}
use Rattle.archive_query.proofs.Naming.{named_is}
use Rattle.archive_query.proofs.Decimals.{decimal_is}
use Rattle.archive_query.proofs.Leads.{at, waiting, IsInGroup}

-- ---- choices

pub chosen : {A : Type 0} (b : Bool) (x y z : A) → (if b then x else y) ≡ z → ((b ≡ true) × (x ≡ z)) ⊎ ((b ≡ false) × (y ≡ z))
chosen true x y z h = inl (refl, h)
chosen false x y z h = inr (refl, h)

pub state_is : (s t : State) → ◌≡◌ {A = Result State Refusal} (Ok s) (Ok t) → s ≡ t
state_is s t h = cc

pub no_state : (why : Refusal) (t : State) → ◌≡◌ {A = Result State Refusal} (Err why) (Ok t) → ⊥
no_state why t h = cc

wanting_is : (levels : List Opened) (waits : Waits) (wants : Option Wants) (t : State) → wanting levels waits wants ≡ Ok t → (w : Wants) × (wants ≡ Some w) × (t ≡ at levels waits w)
wanting_is levels waits None t h = absurd (no_state Refusal.Misplaced t h)
wanting_is levels waits (Some w) t h = (w, refl, sym (state_is (at levels waits w) t h))

putting_is : (levels : List Opened) (waits : Waits) (found : Option Test) (t : State) → putting levels waits found ≡ Ok t → (x : Test) × (found ≡ Some x) × (t ≡ put levels waits (Tested x))
putting_is levels waits None t h = absurd (no_state Refusal.Misplaced t h)
putting_is levels waits (Some x) t h = (x, refl, sym (state_is (put levels waits (Tested x)) t h))

mapped_is : {A B : Type 0} (f : A → B) (o : Option A) (b : B) → option_map f o ≡ Some b → (a : A) × (o ≡ Some a) × (b ≡ f a)
mapped_is f None b h = absurd (none_some b h)
mapped_is f (Some a) b h = (a, refl, sym (some_is (f a) b h))

pub opening_is : (most : ℕ) (levels : List Opened) (level : Opened) (inner : Waits) (t : State) → opening most levels level inner ≡ Ok t → (length levels < most) × (t ≡ at (level ∷ levels) inner AUnit)
opening_is most levels level inner t h =
    elim (chosen (nat_lt (length levels) most) (Ok (at (level ∷ levels) inner AUnit)) (Err Refusal.TooDeep) (Ok t) h) [
      | inl room ↦ (ltb-true (length levels) most room.0, sym (state_is (at (level ∷ levels) inner AUnit) t room.1))
      | inr full ↦ absurd (no_state Refusal.TooDeep t full.1)
    ]

-- ---- what waits

-- between the two stands each of these with an `and` behind it
abbrev pub AreAll : ℕ → List Bytes → List Query → List Bytes → Type 0
AreAll deep from [] to = from ≡ to
AreAll deep from (q ∷ qs) to = (middle : List Bytes) × Reads unit deep from (codes "and" ∷ middle) q × AreAll deep middle qs to

-- or with an `or` behind it
abbrev pub AreAny : ℕ → List Bytes → List Query → List Bytes → Type 0
AreAny deep from [] to = from ≡ to
AreAny deep from (q ∷ qs) to = (middle : List Bytes) × Reads all deep from (codes "or" ∷ middle) q × AreAny deep middle qs to

abbrev pub AreWaiting : ℕ → List Bytes → Waits → List Bytes → Type 0
AreWaiting deep from waits to = (middle : List Bytes) × AreAny deep from waits.any middle × AreAll deep middle waits.all to

all_more : (deep : ℕ) (from : List Bytes) (qs : List Query) (middle to : List Bytes) (q : Query) → AreAll deep from qs middle → Reads unit deep middle (codes "and" ∷ to) q → AreAll deep from (qs ++ q ∷ []) to
all_more deep from [] middle to q h r = (to, subst (λ (m : List Bytes). Reads unit deep m (codes "and" ∷ to) q) (sym h) r, refl)
all_more deep from (p ∷ qs) middle to q h r = (h.0, h.1, all_more deep h.0 qs middle to q h.2 r)

any_more : (deep : ℕ) (from : List Bytes) (qs : List Query) (middle to : List Bytes) (q : Query) → AreAny deep from qs middle → Reads all deep middle (codes "or" ∷ to) q → AreAny deep from (qs ++ q ∷ []) to
any_more deep from [] middle to q h r = (to, subst (λ (m : List Bytes). Reads all deep m (codes "or" ∷ to) q) (sym h) r, refl)
any_more deep from (p ∷ qs) middle to q h r = (h.0, h.1, any_more deep h.0 qs middle to q h.2 r)

all_end : (deep : ℕ) (from : List Bytes) (qs : List Query) (middle to : List Bytes) (q : Query) → AreAll deep from qs middle → Reads all deep middle to q → Reads all deep from to (all_joined qs q)
all_end deep from [] middle to q h r = subst (λ (m : List Bytes). Reads all deep m to q) (sym h) r
all_end deep from (p ∷ qs) middle to q h r = both h.1 (all_end deep h.0 qs middle to q h.2 r)

any_end : (deep : ℕ) (from : List Bytes) (qs : List Query) (middle to : List Bytes) (q : Query) → AreAny deep from qs middle → Reads any deep middle to q → Reads any deep from to (any_joined qs q)
any_end deep from [] middle to q h r = subst (λ (m : List Bytes). Reads any deep m to q) (sym h) r
any_end deep from (p ∷ qs) middle to q h r = either h.1 (any_end deep h.0 qs middle to q h.2 r)

-- a group that ends with this unit
waits_end : (deep : ℕ) (from : List Bytes) (waits : Waits) (middle to : List Bytes) (q : Query) → AreWaiting deep from waits middle → Reads unit deep middle to q → Reads any deep from to (closed waits q)
waits_end deep from waits middle to q h r = any_end deep from waits.any h.0 to (all_joined waits.all q) h.1 (only (all_end deep h.0 waits.all middle to q h.2 (one r)))

-- ---- the state

module _ (most : ℕ) (origin : List Bytes) where
  -- between the first token and `to` these levels were opened, and those queries wait; so many levels may still be opened
  abbrev pub Stands : ℕ → List Opened → Waits → List Bytes → Type 0
  Stands deep [] waits to = AreWaiting deep origin waits to × (deep ≡ most)
  Stands deep (Negation ∷ levels) waits to = Stands (suc deep) levels waits (codes "not" ∷ to)
  Stands deep (Group outer ∷ levels) waits to = (from : List Bytes) × AreWaiting deep from waits to × Stands (suc deep) levels outer (codes "(" ∷ from)

  -- and behind them the tokens of what is read in part
  abbrev pub IsBetween : List Opened → Wants → ℕ → List Bytes → List Bytes → Type 0
  IsBetween levels AUnit deep to rest = to ≡ rest
  IsBetween levels (ATextOperator f) deep to rest = to ≡ text_field_word f ∷ rest
  IsBetween levels (AText f o) deep to rest = to ≡ text_field_word f ∷ text_operator_word o ∷ rest
  IsBetween levels (ANumberOperator f) deep to rest = to ≡ number_field_word f ∷ rest
  IsBetween levels (ANumber f o) deep to rest = to ≡ number_field_word f ∷ number_operator_word o ∷ rest
  IsBetween levels AnActOperator deep to rest = to ≡ codes "act" ∷ rest
  IsBetween levels AnAct deep to rest = to ≡ codes "act" ∷ codes "is" ∷ rest
  IsBetween levels (AJoint q) deep to rest = Reads unit deep to rest q × IsInGroup levels

  pub record Holds (s : State) (rest : List Bytes) : Type 0 where
    pub deep : ℕ
    pub to : List Bytes
    pub stands : Stands deep s.levels s.waits to
    pub between : IsBetween s.levels s.wants deep to rest

  pub stands_deep : (deep : ℕ) (levels : List Opened) (waits : Waits) (to : List Bytes) → Stands deep levels waits to → deep + length levels ≡ most
  stands_deep deep [] waits to h = omega (arith, h.1)
  stands_deep deep (Negation ∷ levels) waits to h = omega (arith, stands_deep (suc deep) levels waits (codes "not" ∷ to) h)
  stands_deep deep (Group outer ∷ levels) waits to h = omega (arith, stands_deep (suc deep) levels outer (codes "(" ∷ h.0) h.2)

  pub start_holds : Holds start origin
  start_holds = record { deep = most; to = origin; stands = ((origin, refl, refl), refl); between = refl }

  put_holds : (deep : ℕ) (levels : List Opened) (waits : Waits) (to rest : List Bytes) (q : Query) → Stands deep levels waits to → Reads unit deep to rest q → Holds (put levels waits q) rest
  put_holds deep [] waits to rest q stands r = record { deep = deep; to = to; stands = stands; between = (r, tt) }
  put_holds deep (Negation ∷ levels) waits to rest q stands r = put_holds (suc deep) levels waits (codes "not" ∷ to) rest (Not q) stands (negation r)
  put_holds deep (Group outer ∷ levels) waits to rest q stands r = record { deep = deep; to = to; stands = stands; between = (r, tt) }

  -- ---- a unit

  opened_holds : (deep : ℕ) (levels : List Opened) (waits : Waits) (rest : List Bytes) → length levels < most → Stands deep levels waits (codes "(" ∷ rest) → Holds (at (Group waits ∷ levels) nothing_waits AUnit) rest
  opened_holds zero levels waits rest room stands = absurd (omega (arith, stands_deep zero levels waits (codes "(" ∷ rest) stands))
  opened_holds (suc deep) levels waits rest room stands = record { deep = deep; to = rest; stands = (rest, (rest, refl, refl), stands); between = refl }

  negated_holds : (deep : ℕ) (levels : List Opened) (waits : Waits) (rest : List Bytes) → length levels < most → Stands deep levels waits (codes "not" ∷ rest) → Holds (at (Negation ∷ levels) waits AUnit) rest
  negated_holds zero levels waits rest room stands = absurd (omega (arith, stands_deep zero levels waits (codes "not" ∷ rest) stands))
  negated_holds (suc deep) levels waits rest room stands = record { deep = deep; to = rest; stands = stands; between = refl }

  act_between : (levels : List Opened) (deep : ℕ) (word : Bytes) (rest : List Bytes) (wants : Wants) → (if same word (codes "act") then Some AnActOperator else None) ≡ Some wants → IsBetween levels wants deep (word ∷ rest) rest
  act_between levels deep word rest wants h =
      elim (chosen (same word (codes "act")) (Some AnActOperator) None (Some wants) h) [
        | inl is ↦ subst (λ (w : Wants). IsBetween levels w deep (word ∷ rest) rest) (some_is AnActOperator wants is.1) (ap (λ (w : Bytes). w ∷ rest) (same_is word (codes "act") is.0))
        | inr not ↦ absurd (none_some wants not.1)
      ]

  number_between : (levels : List Opened) (deep : ℕ) (word : Bytes) (rest : List Bytes) (wants : Wants)
      → first_of (option_map ANumberOperator (number_field_of word)) (if same word (codes "act") then Some AnActOperator else None) ≡ Some wants → IsBetween levels wants deep (word ∷ rest) rest
  number_between levels deep word rest wants h =
      elim (number_field_of word) as (λ o. number_field_of word ≡ o → first_of (option_map ANumberOperator o) (if same word (codes "act") then Some AnActOperator else None) ≡ Some wants → IsBetween levels wants deep (word ∷ rest) rest) [
        | None ↦ λ is that. act_between levels deep word rest wants that
        | Some f ↦ λ is this. subst (λ (w : Wants). IsBetween levels w deep (word ∷ rest) rest) (some_is (ANumberOperator f) wants this) (ap (λ (w : Bytes). w ∷ rest) (named_is number_field_word number_fields word f is))
      ] refl h

  field_between : (levels : List Opened) (deep : ℕ) (word : Bytes) (rest : List Bytes) (wants : Wants) → field_wants word ≡ Some wants → IsBetween levels wants deep (word ∷ rest) rest
  unfolding field_wants
  field_between levels deep word rest wants h =
      elim (text_field_of word) as (λ o. text_field_of word ≡ o → first_of (option_map ATextOperator o) (first_of (option_map ANumberOperator (number_field_of word)) (if same word (codes "act") then Some AnActOperator else None)) ≡ Some wants
      → IsBetween levels wants deep (word ∷ rest) rest) [
        | None ↦ λ is that. number_between levels deep word rest wants that
        | Some f ↦ λ is this. subst (λ (w : Wants). IsBetween levels w deep (word ∷ rest) rest) (some_is (ATextOperator f) wants this) (ap (λ (w : Bytes). w ∷ rest) (named_is text_field_word text_fields word f is))
      ] refl h

  unit_holds : (deep : ℕ) (levels : List Opened) (waits : Waits) (word : Bytes) (rest : List Bytes) (t : State) → Stands deep levels waits (word ∷ rest) → unit_step most levels waits word ≡ Ok t → Holds t rest
  unfolding unit_step
  unit_holds deep levels waits word rest t stands h =
      elim (chosen (same word (codes "(")) (opening most levels (Group waits) nothing_waits) (if same word (codes "not") then opening most levels Negation waits else wanting levels waits (field_wants word)) (Ok t) h) [
        | inl is ↦
            let o = opening_is most levels (Group waits) nothing_waits t is.1 in
            subst (λ (u : State). Holds u rest) (sym o.1) (opened_holds deep levels waits rest o.0 (subst (λ (w : Bytes). Stands deep levels waits (w ∷ rest)) (same_is word (codes "(") is.0) stands))
        | inr other ↦ elim (chosen (same word (codes "not")) (opening most levels Negation waits) (wanting levels waits (field_wants word)) (Ok t) other.1) [
          | inl is ↦
              let o = opening_is most levels Negation waits t is.1 in
              subst (λ (u : State). Holds u rest) (sym o.1) (negated_holds deep levels waits rest o.0 (subst (λ (w : Bytes). Stands deep levels waits (w ∷ rest)) (same_is word (codes "not") is.0) stands))
          | inr field ↦
              let w = wanting_is levels waits (field_wants word) t field.1 in
              subst (λ (u : State). Holds u rest) (sym w.2) (record { deep = deep; to = word ∷ rest; stands = stands; between = field_between levels deep word rest w.0 w.1 })
        ]
      ]

  -- ---- behind a unit

  and_holds : (deep : ℕ) (levels : List Opened) (waits : Waits) (to rest : List Bytes) (q : Query) → Stands deep levels waits to → IsInGroup levels → Reads unit deep to (codes "and" ∷ rest) q
      → Stands deep levels (waiting waits.any (waits.all ++ q ∷ [])) rest
  and_holds deep [] waits to rest q stands inside r = ((stands.0.0, stands.0.1, all_more deep stands.0.0 waits.all to rest q stands.0.2 r), stands.1)
  and_holds deep (Negation ∷ levels) waits to rest q stands inside r = absurd inside
  and_holds deep (Group outer ∷ levels) waits to rest q stands inside r = (stands.0, (stands.1.0, stands.1.1, all_more deep stands.1.0 waits.all to rest q stands.1.2 r), stands.2)

  or_waits : (deep : ℕ) (from : List Bytes) (waits : Waits) (to rest : List Bytes) (q : Query) → AreWaiting deep from waits to → Reads unit deep to (codes "or" ∷ rest) q → AreWaiting deep from (waiting (waits.any ++ all_joined waits.all q ∷ []) []) rest
  or_waits deep from waits to rest q h r = (rest, any_more deep from waits.any h.0 rest (all_joined waits.all q) h.1 (all_end deep h.0 waits.all to (codes "or" ∷ rest) q h.2 (one r)), refl)

  or_holds : (deep : ℕ) (levels : List Opened) (waits : Waits) (to rest : List Bytes) (q : Query) → Stands deep levels waits to → IsInGroup levels → Reads unit deep to (codes "or" ∷ rest) q
      → Stands deep levels (waiting (waits.any ++ all_joined waits.all q ∷ []) []) rest
  or_holds deep [] waits to rest q stands inside r = (or_waits deep origin waits to rest q stands.0 r, stands.1)
  or_holds deep (Negation ∷ levels) waits to rest q stands inside r = absurd inside
  or_holds deep (Group outer ∷ levels) waits to rest q stands inside r = (stands.0, or_waits deep stands.0 waits to rest q stands.1 r, stands.2)

  close_holds : (deep : ℕ) (levels : List Opened) (waits : Waits) (to rest : List Bytes) (q : Query) (t : State) → Stands deep levels waits to → Reads unit deep to (codes ")" ∷ rest) q → closing levels waits q ≡ Ok t → Holds t rest
  close_holds deep [] waits to rest q t stands r h = absurd (no_state Refusal.Misplaced t h)
  close_holds deep (Negation ∷ levels) waits to rest q t stands r h = absurd (no_state Refusal.Misplaced t h)
  close_holds deep (Group outer ∷ levels) waits to rest q t stands r h =
      subst (λ (u : State). Holds u rest) (state_is (put levels outer (closed waits q)) t h)
      (put_holds (suc deep) levels outer (codes "(" ∷ stands.0) rest (closed waits q) stands.2 (group (waits_end deep stands.0 waits to (codes ")" ∷ rest) q stands.1 r)))

  joint_holds : (deep : ℕ) (levels : List Opened) (waits : Waits) (to : List Bytes) (word : Bytes) (rest : List Bytes) (q : Query) (t : State) → Stands deep levels waits to → IsInGroup levels → Reads unit deep to (word ∷ rest) q
      → joint_step levels waits q word ≡ Ok t → Holds t rest
  unfolding joint_step
  joint_holds deep levels waits to word rest q t stands inside r h =
      elim (chosen (same word (codes "and")) (Ok (at levels (waiting waits.any (waits.all ++ q ∷ [])) AUnit)) (if same word (codes "or") then Ok (at levels (waiting (waits.any ++ all_joined waits.all q ∷ []) []) AUnit) else (if same word (codes ")") then closing levels waits q else Err Refusal.Misplaced)) (Ok t) h) [
        | inl is ↦
            subst (λ (u : State). Holds u rest) (state_is (at levels (waiting waits.any (waits.all ++ q ∷ [])) AUnit) t is.1)
            (record { deep = deep; to = rest; stands = and_holds deep levels waits to rest q stands inside (subst (λ (w : Bytes). Reads unit deep to (w ∷ rest) q) (same_is word (codes "and") is.0) r); between = refl })
        | inr other ↦ elim (chosen (same word (codes "or")) (Ok (at levels (waiting (waits.any ++ all_joined waits.all q ∷ []) []) AUnit)) (if same word (codes ")") then closing levels waits q else Err Refusal.Misplaced) (Ok t) other.1) [
          | inl is ↦
              subst (λ (u : State). Holds u rest) (state_is (at levels (waiting (waits.any ++ all_joined waits.all q ∷ []) []) AUnit) t is.1)
              (record { deep = deep; to = rest; stands = or_holds deep levels waits to rest q stands inside (subst (λ (w : Bytes). Reads unit deep to (w ∷ rest) q) (same_is word (codes "or") is.0) r); between = refl })
          | inr behind ↦ elim (chosen (same word (codes ")")) (closing levels waits q) (Err Refusal.Misplaced) (Ok t) behind.1) [
            | inl is ↦ close_holds deep levels waits to rest q t stands (subst (λ (w : Bytes). Reads unit deep to (w ∷ rest) q) (same_is word (codes ")") is.0) r) is.1
            | inr none ↦ absurd (no_state Refusal.Misplaced t none.1)
          ]
        ]
      ]

  -- ---- each token

  wanted_holds : (deep : ℕ) (levels : List Opened) (waits : Waits) (to : List Bytes) (rest : List Bytes) (wants : Option Wants) (t : State) → Stands deep levels waits to → ((w : Wants) → wants ≡ Some w → IsBetween levels w deep to rest) → wanting levels waits wants ≡ Ok t → Holds t rest
  wanted_holds deep levels waits to rest wants t stands between h =
      let w = wanting_is levels waits wants t h in
      subst (λ (u : State). Holds u rest) (sym w.2) (record { deep = deep; to = to; stands = stands; between = between w.0 w.1 })

  tested_holds : (deep : ℕ) (levels : List Opened) (waits : Waits) (to : List Bytes) (rest : List Bytes) (found : Option Test) (t : State) → Stands deep levels waits to → ((x : Test) → found ≡ Some x → Reads unit deep to rest (Tested x)) → putting levels waits found ≡ Ok t → Holds t rest
  tested_holds deep levels waits to rest found t stands reads h =
      let x = putting_is levels waits found t h in
      subst (λ (u : State). Holds u rest) (sym x.2) (put_holds deep levels waits to rest (Tested x.0) stands (reads x.0 x.1))

  abbrev Moves : List Opened → Waits → Wants → Bytes → List Bytes → State → Type 0
  Moves levels waits wants word rest t = (deep : ℕ) (to : List Bytes) → Stands deep levels waits to → IsBetween levels wants deep to (word ∷ rest) → step most (at levels waits wants) word ≡ Ok t → Holds t rest

  moves : (levels : List Opened) (waits : Waits) (wants : Wants) (word : Bytes) (rest : List Bytes) (t : State) → Moves levels waits wants word rest t
  moves levels waits AUnit word rest t deep to stands is h = unit_holds deep levels waits word rest t (subst (λ (l : List Bytes). Stands deep levels waits l) is stands) h
  moves levels waits (ATextOperator f) word rest t deep to stands is h =
      wanted_holds deep levels waits to rest (option_map (AText f) (text_operator_of word)) t stands (λ w named.
      let o = mapped_is (AText f) (text_operator_of word) w named in
      subst (λ (w : Wants). IsBetween levels w deep to rest) (sym o.2) (is ∙ ap (λ (w : Bytes). text_field_word f ∷ w ∷ rest) (named_is text_operator_word text_operators word o.0 o.1))) h
  moves levels waits (AText f o) word rest t deep to stands is h =
      tested_holds deep levels waits to rest (option_map (Text f o) (text_said word)) t stands (λ x said.
      let v = mapped_is (Text f o) (text_said word) x said in
      subst (λ (x : Test). Reads unit deep to rest (Tested x)) (sym v.2) (subst (λ (l : List Bytes). Reads unit deep l rest (Tested (Text f o v.0))) (sym is) (test (refl, refl, v.1)))) h
  moves levels waits (ANumberOperator f) word rest t deep to stands is h =
      wanted_holds deep levels waits to rest (option_map (ANumber f) (number_operator_of word)) t stands (λ w named.
      let o = mapped_is (ANumber f) (number_operator_of word) w named in
      subst (λ (w : Wants). IsBetween levels w deep to rest) (sym o.2) (is ∙ ap (λ (w : Bytes). number_field_word f ∷ w ∷ rest) (named_is number_operator_word number_operators word o.0 o.1))) h
  moves levels waits (ANumber f o) word rest t deep to stands is h =
      tested_holds deep levels waits to rest (option_map (Number f o) (decimal_said word)) t stands (λ x said.
      let v = mapped_is (Number f o) (decimal_said word) x said in
      let d = decimal_is word v.0 v.1 in
      subst (λ (x : Test). Reads unit deep to rest (Tested x)) (sym v.2) (subst (λ (l : List Bytes). Reads unit deep l rest (Tested (Number f o v.0))) (sym is) (test (refl, refl, d.0, d.1)))) h
  moves levels waits AnActOperator word rest t deep to stands is h =
      wanted_holds deep levels waits to rest (if same word (codes "is") then Some AnAct else None) t stands (λ w wants.
      elim (chosen (same word (codes "is")) (Some AnAct) None (Some w) wants) [
        | inl this ↦ subst (λ (w : Wants). IsBetween levels w deep to rest) (some_is AnAct w this.1) (is ∙ ap (λ (w : Bytes). codes "act" ∷ w ∷ rest) (same_is word (codes "is") this.0))
        | inr that ↦ absurd (none_some w that.1)
      ]) h
  moves levels waits AnAct word rest t deep to stands is h =
      tested_holds deep levels waits to rest (option_map Act (act_of word)) t stands (λ x said.
      let k = mapped_is Act (act_of word) x said in
      subst (λ (x : Test). Reads unit deep to rest (Tested x)) (sym k.2) (subst (λ (l : List Bytes). Reads unit deep l rest (Tested (Act k.0))) (sym is) (test (refl, refl, named_is act_word acts word k.0 k.1)))) h
  moves levels waits (AJoint q) word rest t deep to stands is h = joint_holds deep levels waits to word rest q t stands is.1 is.0 h

  pub step_holds : (s t : State) (word : Bytes) (rest : List Bytes) → Holds s (word ∷ rest) → step most s word ≡ Ok t → Holds t rest
  step_holds s t word rest h is = moves s.levels s.waits s.wants word rest t h.deep h.to h.stands h.between is

  -- ---- all tokens

  end_spells : (levels : List Opened) (waits : Waits) (wants : Wants) (deep : ℕ) (to : List Bytes) (q : Query) → Stands deep levels waits to → IsBetween levels wants deep to [] → ended levels waits wants ≡ Ok q → Spells most origin q
  end_spells (level ∷ levels) waits wants deep to q stands is h = absurd cc
  end_spells [] waits (AJoint p) deep to q stands is h =
      let closes : closed waits p ≡ q = cc in
      subst (λ (d : ℕ). Spells d origin q) stands.1 (subst (λ (r : Query). Spells deep origin r) closes (waits_end deep origin waits to [] p stands.0 is.0))
  end_spells [] waits wants deep to q stands is h = absurd cc

  pub run_spells : (words : List Bytes) (s : State) (q : Query) → Holds s words → run most s words ≡ Ok q → Spells most origin q
  unfolding run
  run_spells [] s q h is = end_spells s.levels s.waits s.wants h.deep h.to q h.stands h.between is
  run_spells (word ∷ words) s q h is =
      elim (step most s word) as (λ (r : Result State Refusal). step most s word ≡ r → then_run r (word ∷ words) (λ t. run most t words) ≡ Ok q → Spells most origin q) [
        | Ok t ↦ λ moved this. run_spells words t q (step_holds s t word words h moved) this
        | Err why ↦ λ stopped that. absurd cc
      ] refl is
