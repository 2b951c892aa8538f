-- The promise of decimal numbers that end at a byte.
use Rattle.std.proofs.Common.{◌≡◌, ℕ, ◌<◌, ◌≤◌, ◌+◌, ◌-◌, ◌*◌, ◌/◌, ◌%◌, ◌^◌, ◌&&◌, List, [], ◌∷◌, ◌++◌, length, get_or, Option, Some, None, refl, sym, ap, subst, ◌∙◌, arith, append_assoc, Bool, true, false, cond, eqb, inl, inr, ◌⊎◌, rules}
use Rattle.std.specs.Prelude.{decimal, nat_lt, nat_le, ◌==◌}
use Rattle.std.proofs.lemmas.Bool.{cases_eq, eq-eqb, ne_eqb}
use Rattle.std.proofs.lemmas.Bool.Decides.{nat_tests}
use Rattle.std.proofs.lemmas.Fmt.{decimal-digits_value, digits_value-decimal, digits_decimal, decimal_by_steps}
use Rattle.std.proofs.lemmas.Str.Parse.{IsNumeralModel, numerals_by_fold}
use Rattle.byte_formats.specs.Until.{until, before_last, numeral, numeral_at, numeral_step, value_after}
use Rattle.byte_formats.proofs.Laws.{IsBytes, IsBytes-both, Lawful, via}
use Rattle.byte_formats.proofs.Until.{IsWord, until_lawful}
use Rattle.byte_formats.proofs.Words.{before_last-push}

-- ASCII digits
abbrev pub IsDigits : List ℕ → Type 0
IsDigits [] = Unit {0}
IsDigits (b ∷ ds) = ((48 ≤ b) × (b ≤ 57)) × IsDigits ds

abbrev ds_value : List ℕ → ℕ
ds_value ds = value_after 0 ds

own : IsNumeralModel IsDigits ds_value
own = numerals_by_fold _ (search rules) value_after (search rules)

digits_bytes : (ds : List ℕ) → IsDigits ds → IsBytes ds
digits_bytes [] h = tt
digits_bytes (b ∷ ds) h = (omega (arith, h.0.1), digits_bytes ds h.1)

bool_cases : (b : Bool) → (b ≡ true) ⊎ (b ≡ false)
bool_cases true = inl refl
bool_cases false = inr refl

pub clash : {X : Type 0} {A : Type 0} (o x y : A) → o ≡ x → o ≡ y → (x ≡ y → X) → X
clash o x y e f k = k (sym e ∙ f)

abbrev Step : Type 0
Step = Option (Option (Option ℕ))

abbrev chosen : Bool → Step → Step → Step
chosen b x y = cond b x y

pub state_is : (s t : Option ℕ) → (let a : Step = Some (Some s) in let b : Step = Some (Some t) in a ≡ b) → s ≡ t
state_is s t e = cc

module _ (stop least most : ℕ) (no_digit : stop < 48) (few : least ≤ 1) (some : least ≤ most) (bound : most < 2 ^ 64) where
  abbrev step : Option ℕ → ℕ → Step
  step = numeral_step stop least most

  abbrev is_first : ℕ → Bool
  is_first b = nat_le 49 b && nat_le b 57 && nat_le (b - 48) most

  abbrev is_zero : ℕ → Bool
  is_zero b = b == 48 && least == 0

  abbrev is_next : ℕ → ℕ → Bool
  is_next v b = nat_le 48 b && nat_le b 57 && nat_lt 0 v && nat_le (v * 10 + (b - 48)) most

  pub first_digit : (b : ℕ) → 49 ≤ b → b ≤ 57 → b - 48 ≤ most → step None b ≡ Some (Some (Some (b - 48)))
  first_digit b lo hi le = let t : is_first b ≡ true = grind (arith, nat_tests) in ap (λ t. chosen t (Some (Some (Some (b - 48)))) (chosen (is_zero b) (Some (Some (Some 0))) None)) t

  pub first_zero : (b : ℕ) → b ≡ 48 → least ≡ 0 → step None b ≡ Some (Some (Some 0))
  first_zero b e z =
      let t : is_first b ≡ false = grind (arith, nat_tests) in
      let u : is_zero b ≡ true = grind (arith, nat_tests) in
      ap (λ t. chosen t (Some (Some (Some (b - 48)))) (chosen (is_zero b) (Some (Some (Some 0))) None)) t ∙ ap (λ u. chosen u (Some (Some (Some 0))) None) u

  pub next_stop : (v : ℕ) → step (Some v) stop ≡ Some None
  next_stop v = rw (eq-eqb stop stop refl) refl

  pub next_digit : (v b : ℕ) → 48 ≤ b → b ≤ 57 → 0 < v → v * 10 + (b - 48) ≤ most → step (Some v) b ≡ Some (Some (Some (v * 10 + (b - 48))))
  next_digit v b lo hi more le =
      let t : is_next v b ≡ true = grind (arith, nat_tests) in
      let n : eqb b stop ≡ false = ne_eqb b stop (λ e. omega arith) in
      ap (λ n. chosen n (Some None) (chosen (is_next v b) (Some (Some (Some (v * 10 + (b - 48))))) None)) n ∙ ap (λ t. chosen t (Some (Some (Some (v * 10 + (b - 48))))) None) t

  pub first_cases : (b : ℕ) → ((49 ≤ b) × (b ≤ 57) × (b - 48 ≤ most)) ⊎ (((b ≡ 48) × (least ≡ 0)) ⊎ (step None b ≡ None))
  first_cases b =
      elim (bool_cases (is_first b)) [
        | inl t ↦ inl (grind (arith, nat_tests, t), grind (arith, nat_tests, t), grind (arith, nat_tests, t))
        | inr t ↦ elim (bool_cases (is_zero b)) [
          | inl u ↦ inr (inl (grind (arith, nat_tests, u), grind (arith, nat_tests, u)))
          | inr u ↦ inr (inr (ap (λ t. chosen t (Some (Some (Some (b - 48)))) (chosen (is_zero b) (Some (Some (Some 0))) None)) t ∙ ap (λ u. chosen u (Some (Some (Some 0))) None) u))
        ]
      ]

  pub next_cases : (v b : ℕ) → (b ≡ stop) ⊎ (((48 ≤ b) × (b ≤ 57) × (0 < v) × (v * 10 + (b - 48) ≤ most)) ⊎ (step (Some v) b ≡ None))
  next_cases v b =
      elim (cases_eq b stop) [
        | inl e ↦ inl e
        | inr n ↦ elim (bool_cases (is_next v b)) [
          | inl t ↦ inr (inl (grind (arith, nat_tests, t), grind (arith, nat_tests, t), grind (arith, nat_tests, t), grind (arith, nat_tests, t)))
          | inr t ↦ inr (inr (ap (λ n. chosen n (Some None) (chosen (is_next v b) (Some (Some (Some (v * 10 + (b - 48))))) None)) (ne_eqb b stop n) ∙ ap (λ t. chosen t (Some (Some (Some (v * 10 + (b - 48))))) None) t))
        ]
      ]

  -- the digits that follow a number, and the end
  pub record Follows (v : ℕ) (x : List ℕ) : Type 0 where
    pub front : List ℕ
    pub is : x ≡ front ++ stop ∷ []
    pub digits : IsDigits front
    pub alone : v ≡ 0 → length front ≡ 0
    pub up : v ≤ value_after v front
    pub top : value_after v front ≤ most

  one_digit : (v b : ℕ) (x : List ℕ) → 48 ≤ b → b ≤ 57 → 0 < v → Follows (v * 10 + (b - 48)) x → Follows v (b ∷ x)
  one_digit v b x lo hi more f = record {
    front = b ∷ f.front;
    is = ap (λ z. b ∷ z) f.is;
    digits = ((lo, hi), f.digits);
    alone = λ e. absurd (omega arith);
    up = omega (arith, f.up);
    top = f.top;
  }

  follows : (v : ℕ) (x : List ℕ) → v ≤ most → IsWord step (Some v) x → Follows v x
  follows v [] le h = absurd h
  follows v (b ∷ x) le h =
      elim (next_cases v b) [
        | inl e ↦ elim h [
          | inl last ↦ record { front = []; is = ap (λ (z : ℕ). z ∷ x) e ∙ ap (λ z. stop ∷ z) last.1; digits = tt; alone = λ _. refl; up = omega arith; top = le }
          | inr more ↦ clash (step (Some v) b) (Some None) (Some (Some more.0)) (ap (step (Some v)) e ∙ next_stop v) more.1 (λ bad. absurd (cc (bad)))
        ]
        | inr other ↦ elim other [
          | inl on ↦
              let s = next_digit v b on.0 on.1 on.2 on.3 in
              elim h [
                | inl last ↦ clash (step (Some v) b) (Some None) (Some (Some (Some (v * 10 + (b - 48))))) last.0 s (λ bad. absurd (cc (bad)))
                | inr more ↦
                    let t = state_is (Some (v * 10 + (b - 48))) more.0 (sym s ∙ more.1) in
                    one_digit v b x on.0 on.1 on.2 (follows (v * 10 + (b - 48)) x on.3 (subst (λ k. IsWord step k x) (sym t) more.2))
              ]
          | inr none ↦ elim h [
            | inl last ↦ clash (step (Some v) b) (Some None) None last.0 none (λ bad. absurd (cc (bad)))
            | inr more ↦ clash (step (Some v) b) None (Some (Some more.0)) none more.1 (λ bad. absurd (cc (bad)))
          ]
        ]
      ]

  pub record Numeral (x : List ℕ) : Type 0 where
    pub front : List ℕ
    pub is : x ≡ front ++ stop ∷ []
    pub digits : IsDigits front
    pub long : 0 < length front
    pub plain : get_or front 0 0 ≡ 48 → length front ≡ 1
    pub low : least ≤ value_after 0 front
    pub top : value_after 0 front ≤ most

  begun : (b : ℕ) (x : List ℕ) → 48 ≤ b → b ≤ 57 → least ≤ b - 48 → Follows (b - 48) x → Numeral (b ∷ x)
  begun b x lo hi low f =
      let e : 0 * 10 + (b - 48) ≡ b - 48 = omega arith in
      record {
        front = b ∷ f.front;
        is = ap (λ z. b ∷ z) f.is;
        digits = ((lo, hi), f.digits);
        long = omega arith;
        plain = λ z. let none = f.alone (omega arith) in omega (arith, none);
        low = rw e (omega (arith, f.up));
        top = rw e f.top;
      }

  numeral_parts : (x : List ℕ) → IsWord step None x → Numeral x
  numeral_parts [] h = absurd h
  numeral_parts (b ∷ x) h =
      elim (first_cases b) [
        | inl d ↦
            let s = first_digit b d.0 d.1 d.2 in
            elim h [
              | inl last ↦ clash (step None b) (Some None) (Some (Some (Some (b - 48)))) last.0 s (λ bad. absurd (cc (bad)))
              | inr more ↦
                  let t = state_is (Some (b - 48)) more.0 (sym s ∙ more.1) in
                  begun b x (omega (arith, d.0)) d.1 (omega (arith, d.0)) (follows (b - 48) x d.2 (subst (λ k. IsWord step k x) (sym t) more.2))
            ]
        | inr other ↦ elim other [
          | inl z ↦
              let s = first_zero b z.0 z.1 in
              elim h [
                | inl last ↦ clash (step None b) (Some None) (Some (Some (Some 0))) last.0 s (λ bad. absurd (cc (bad)))
                | inr more ↦
                    let t = state_is (Some 0) more.0 (sym s ∙ more.1) in
                    let zero_is : b - 48 ≡ 0 = omega (arith, z.0) in
                    begun b x (omega (arith, z.0)) (omega (arith, z.0)) (omega (arith, z.1)) (subst (λ k. Follows k x) (sym zero_is) (follows 0 x (omega arith) (subst (λ k. IsWord step k x) (sym t) more.2)))
              ]
          | inr none ↦ elim h [
            | inl last ↦ clash (step None b) (Some None) None last.0 none (λ bad. absurd (cc (bad)))
            | inr more ↦ clash (step None b) None (Some (Some more.0)) none more.1 (λ bad. absurd (cc (bad)))
          ]
        ]
      ]

  -- what stands before the rest of a word begins it
  abbrev Leads : ℕ → List ℕ → Type 0
  Leads n ds = n ≤ most → (n ≡ 0 → least ≡ 0) → (more : List ℕ) → IsWord step (Some n) more → IsWord step None (ds ++ more)

  leads_one : (n : ℕ) → n < 10 → Leads n ((48 + n) ∷ [])
  leads_one n lt le z more w =
      elim (cases_eq n 0) [
        | inl e ↦ inr (Some n, first_zero (48 + n) (omega (arith, e)) (z e) ∙ ap (λ (k : ℕ). Some (Some (Some k))) (sym e), w)
        | inr k ↦ let back : (48 + n) - 48 ≡ n = omega arith in inr (Some n, first_digit (48 + n) (omega (arith, k)) (omega arith) (omega arith) ∙ ap (λ (k : ℕ). Some (Some (Some k))) back, w)
      ]

  leads_more : (n : ℕ) (ds : List ℕ) → 10 ≤ n → Leads (n / 10) ds → Leads n (ds ++ ((48 + n % 10) ∷ []))
  leads_more n ds ten lead le z more w =
      let back : n / 10 * 10 + ((48 + n % 10) - 48) ≡ n = omega arith in
      let s = next_digit (n / 10) (48 + n % 10) (omega arith) (omega arith) (omega arith) (omega arith) ∙ ap (λ (k : ℕ). Some (Some (Some k))) back in
      subst (IsWord step None) (sym (append_assoc ds ((48 + n % 10) ∷ []) more)) (lead (omega arith) (λ e. absurd (omega arith)) ((48 + n % 10) ∷ more) (inr (Some n, s, w)))

  word_of : (n : ℕ) → least ≤ n → n ≤ most → IsWord step None (decimal n ++ stop ∷ [])
  word_of n low le = decimal_by_steps Leads leads_one leads_more n (omega arith) le (λ z. omega arith) (stop ∷ []) (inl (next_stop n, refl))

  abbrev Bounded : Option ℕ → Type 0
  Bounded None = Unit {0}
  Bounded (Some v) = v ≤ most

  keeps : (s : Option ℕ) (b : ℕ) (t : Option ℕ) → Bounded s → step s b ≡ Some (Some t) → Bounded t
  keeps None b t i e =
      elim (first_cases b) [
        | inl d ↦ subst Bounded (state_is (Some (b - 48)) t (sym (first_digit b d.0 d.1 d.2) ∙ e)) d.2
        | inr other ↦ elim other [
          | inl z ↦ subst Bounded (state_is (Some 0) t (sym (first_zero b z.0 z.1) ∙ e)) (omega arith)
          | inr none ↦ clash (step None b) None (Some (Some t)) none e (λ bad. absurd (cc (bad)))
        ]
      ]
  keeps (Some v) b t i e =
      elim (next_cases v b) [
        | inl same ↦ clash (step (Some v) b) (Some None) (Some (Some t)) (ap (step (Some v)) same ∙ next_stop v) e (λ bad. absurd (cc (bad)))
        | inr other ↦ elim other [
          | inl on ↦ subst Bounded (state_is (Some (v * 10 + (b - 48))) t (sym (next_digit v b on.0 on.1 on.2 on.3) ∙ e)) on.3
          | inr none ↦ clash (step (Some v) b) None (Some (Some t)) none e (λ bad. absurd (cc (bad)))
        ]
      ]

  filler : (s : Option ℕ) → Bounded s → (x : List ℕ) × IsWord step s x × IsBytes x
  filler (Some v) i = (stop ∷ [], inl (next_stop v, refl), (omega arith, tt))
  filler None i = (decimal least ++ stop ∷ [], word_of least (omega arith) some, IsBytes-both (decimal least) (stop ∷ []) (digits_bytes (decimal least) (digits_decimal own least (omega arith))) (omega arith, tt))

  numeral_to : (x : List ℕ) → IsWord step None x × IsBytes x
      → ((least ≤ ds_value (before_last x)) × (ds_value (before_last x) ≤ most)) × ((numeral stop least most).spell (ds_value (before_last x)) ≡ x)
  numeral_to x h =
      let p = numeral_parts x h.0 in
      let front : before_last x ≡ p.front = ap before_last p.is ∙ before_last-push p.front stop in
      let back : decimal (ds_value p.front) ≡ p.front = decimal-digits_value own p.front p.digits p.long p.plain (omega (arith, p.top)) in (
        (subst (λ z. least ≤ ds_value z) (sym front) p.low, subst (λ z. ds_value z ≤ most) (sym front) p.top),
        ap (λ z. decimal (ds_value z) ++ stop ∷ []) front ∙ ap (λ z. z ++ stop ∷ []) back ∙ sym p.is,
      )

  numeral_back : (n : ℕ) → (least ≤ n) × (n ≤ most) → (x : List ℕ) × (IsWord step None x × IsBytes x) × (ds_value (before_last x) ≡ n)
  numeral_back n h =
      let small : n < 2 ^ 64 = omega (arith, h.1) in (
        decimal n ++ stop ∷ [],
        (word_of n h.0 h.1, IsBytes-both (decimal n) (stop ∷ []) (digits_bytes (decimal n) (digits_decimal own n small)) (omega arith, tt)),
        ap ds_value (before_last-push (decimal n) stop) ∙ digits_value-decimal own n small,
      )

  pub numeral_lawful : Lawful (numeral stop least most) (λ n. (least ≤ n) × (n ≤ most))
  unfolding numeral_at
  numeral_lawful =
      via (until step None) (λ x. IsWord step None x × IsBytes x) (numeral stop least most) (λ n. (least ≤ n) × (n ≤ most)) (λ x. ds_value (before_last x))
      (until_lawful step Bounded keeps filler None tt) (λ bytes. refl) numeral_to numeral_back
