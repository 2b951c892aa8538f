-- The promise of varints.
use Rattle.std.proofs.Common.{◌≡◌, ℕ, zero, suc, ◌<◌, ◌≤◌, ◌+◌, ◌-◌, ◌*◌, ◌/◌, ◌%◌, ◌^◌, List, [], ◌∷◌, ◌++◌, length, Bool, true, false, not, ◌&&◌, ◌||◌, Result, Ok, Err, cond, eqb, ltb, refl, sym, ap, subst, ◌∙◌, arith, inl, inr, ◌⊎◌, append_assoc, length-append}
use borrow.Author.Tests.{ne_eqb}
use Rattle.std.proofs.lemmas.Bool.{cases_lt, le-ltb, lt-ltb}
use Rattle.byte_formats.specs.Format.{Format, ◌>>=◌}
use Rattle.std.proofs.lemmas.List.{append-nil}
use Rattle.byte_formats.proofs.Laws.{IsBytes, Lawful, bind_ok, bind_err, ok_is, not_both, same_left}
use Rattle.byte_formats.specs.Varint.{groups, top, varint_bytes, last_group, grouped, varint_at, varint}
use Rattle.byte_formats.proofs.Sounds.{Sound}

-- a number that may stand as a group, the first one or one behind others
abbrev May : Bool → ℕ → Type 0
May first n = (first ≡ true) ⊎ (1 ≤ n)

zero_test : (n : ℕ) (first : Bool) → May first n → (eqb n 0 && not first) ≡ false
zero_test zero true h = refl
zero_test zero false h = elim h [ inl e ↦ absurd cc | inr le ↦ absurd (omega (arith, le)) ]
zero_test (suc n) first h = rw (ne_eqb (suc n) 0 (omega arith)) refl

zero_cases : (n : ℕ) (first : Bool) → ((eqb n 0 && not first) ≡ true) ⊎ May first n
zero_cases zero true = inr (inl refl)
zero_cases zero false = inl refl
zero_cases (suc n) first = inr (inr (omega arith))

-- ---- what a byte does

abbrev Refuses : Bool → ℕ → ℕ → Type 0
Refuses first most b = (bytes : List ℕ) → varint_at first most (b ∷ bytes) ≡ Err (suc (length bytes))

pub record Ends (first : Bool) (most : ℕ) (b : ℕ) : Type 0 where
  pub small : b < 128
  pub le : b ≤ most
  pub may : May first b
  pub reads : (bytes : List ℕ) → varint_at first most (b ∷ bytes) ≡ Ok (b, bytes)

pub record GoesOn (first : Bool) (most : ℕ) (b : ℕ) : Type 0 where
  pub big : 128 ≤ b
  pub le : b ≤ most
  pub reads : (bytes : List ℕ) → varint_at first most (b ∷ bytes) ≡ (varint_at false ((most - (b - 128)) / 128) bytes >>= grouped (b - 128))

abbrev Does : Bool → ℕ → ℕ → Type 0
Does first most b = Refuses first most b ⊎ (Ends first most b ⊎ GoesOn first most b)

ends : (first : Bool) (most b : ℕ) → b < 128 → b ≤ most → May first b → (bytes : List ℕ) → varint_at first most (b ∷ bytes) ≡ Ok (b, bytes)
unfolding varint_at
ends first most b lt le may bytes = let p = lt-ltb _ _ lt in let q = le-ltb _ _ le in let r = zero_test b first may in rw (p, q, r) refl

refuses_more : (first : Bool) (most b : ℕ) → b < 128 → most < b → Refuses first most b
unfolding varint_at
refuses_more first most b lt more bytes = let p = lt-ltb _ _ lt in let q = lt-ltb _ _ more in rw (p, q) refl

refuses_zero : (first : Bool) (most b : ℕ) → b < 128 → b ≤ most → (eqb b 0 && not first) ≡ true → Refuses first most b
unfolding varint_at
refuses_zero first most b lt le test bytes = let p = lt-ltb _ _ lt in let q = le-ltb _ _ le in rw (p, q, test) refl

refuses_on : (first : Bool) (most b : ℕ) → 128 ≤ b → most < b → Refuses first most b
unfolding varint_at
refuses_on first most b ge more bytes = let p = le-ltb _ _ ge in let q = lt-ltb _ _ more in rw (p, q) refl

goes_on : (first : Bool) (most b : ℕ) → 128 ≤ b → b ≤ most → (bytes : List ℕ) → varint_at first most (b ∷ bytes) ≡ (varint_at false ((most - (b - 128)) / 128) bytes >>= grouped (b - 128))
unfolding varint_at
goes_on first most b ge le bytes = let p = le-ltb _ _ ge in let q = le-ltb _ _ le in rw (p, q) refl

does : (first : Bool) (most b : ℕ) → Does first most b
does first most b =
    elim (cases_lt b 128) [
      | inl lt ↦ elim (cases_lt most b) [
        | inl more ↦ inl (refuses_more first most b lt more)
        | inr le ↦ elim (zero_cases b first) [
          | inl test ↦ inl (refuses_zero first most b lt le test)
          | inr may ↦ inr (inl (record { small = lt; le = le; may = may; reads = ends first most b lt le may }))
        ]
      ]
      | inr ge ↦ elim (cases_lt most b) [
        | inl more ↦ inl (refuses_on first most b ge more)
        | inr le ↦ inr (inr (record { big = ge; le = le; reads = goes_on first most b ge le }))
      ]
    ]

-- ---- numbers below a power

pub top_suc : (f : ℕ) → top (suc f) ≡ 128 * top f
unfolding top
top_suc f = refl

pub top_zero : top 0 ≡ 128
unfolding top
top_zero = refl

pub groups_small : (f n : ℕ) → n < 128 → groups f n ≡ n ∷ []
groups_small zero n lt = refl
groups_small (suc f) n lt = rw (lt-ltb _ _ lt) refl

pub groups_big : (f n : ℕ) → 128 ≤ n → groups (suc f) n ≡ (128 + n % 128) ∷ groups f (n / 128)
groups_big f n ge = rw (le-ltb _ _ ge) refl

again_big : (f : ℕ) (first : Bool) (most n : ℕ) (rest : List ℕ) → 128 ≤ n → n ≤ most → ((m : ℕ) → n / 128 ≤ m → varint_at false m (groups f (n / 128) ++ rest) ≡ Ok (n / 128, rest))
    → varint_at first most (groups (suc f) n ++ rest) ≡ Ok (n, rest)
again_big f first most n rest ge le inner =
    let b : ℕ = 128 + n % 128 in
    let is : n % 128 + 128 * (n / 128) ≡ n = omega arith in
    let up : b ≤ most = omega arith in
    let low : b - 128 ≡ n % 128 = omega arith in
    let room : n / 128 ≤ (most - (b - 128)) / 128 = omega arith in
    let value : (b - 128) + 128 * (n / 128) ≡ n = omega arith in
    ap (λ z. varint_at first most (z ++ rest)) (groups_big f n ge) ∙ goes_on first most b (omega arith) up (groups f (n / 128) ++ rest)
    ∙ ap (λ r. r >>= grouped (b - 128)) (inner ((most - (b - 128)) / 128) room) ∙ ap (λ (z : ℕ). Ok (z, rest)) value

varint_again : (f : ℕ) (first : Bool) (most n : ℕ) (rest : List ℕ) → n < top f → n ≤ most → May first n → varint_at first most (groups f n ++ rest) ≡ Ok (n, rest)
varint_again zero first most n rest lt le may = let small : n < 128 = omega (arith, top_zero, lt) in ends first most n small le may rest
varint_again (suc f) first most n rest lt le may =
    elim (cases_lt n 128) [
      | inl small ↦ ap (λ z. varint_at first most (z ++ rest)) (groups_small (suc f) n small) ∙ ends first most n small le may rest
      | inr ge ↦
          let below : n / 128 < top f = omega (arith, top_suc f, lt) in
          again_big f first most n rest ge le (λ m room. varint_again f false m (n / 128) rest below room (inr (omega arith)))
    ]

pub record Taken (f : ℕ) (first : Bool) (most : ℕ) (bytes : List ℕ) (n : ℕ) (rest : List ℕ) : Type 0 where
  pub le : n ≤ most
  pub may : May first n
  pub is : bytes ≡ groups f n ++ rest

taken_small : (f : ℕ) (first : Bool) (most b : ℕ) (bytes : List ℕ) → Ends first most b → Taken f first most (b ∷ bytes) b bytes
taken_small f first most b bytes h = record { le = h.le; may = h.may; is = ap (λ z. z ++ bytes) (sym (groups_small f b h.small)) }

at_least_one : (n : ℕ) → May false n → 1 ≤ n
at_least_one n h = elim h [ inl e ↦ absurd cc | inr le ↦ le ]

taken_big : (f : ℕ) (first : Bool) (most b n : ℕ) (bytes rest : List ℕ) → b < 256 → GoesOn first most b → Taken f false ((most - (b - 128)) / 128) bytes n rest → Taken (suc f) first most (b ∷ bytes) ((b - 128) + 128 * n) rest
taken_big f first most b n bytes rest byte h t =
    let one : 1 ≤ n = at_least_one n t.may in
    let big : 128 ≤ b = h.big in
    let le : b ≤ most = h.le in
    let inner : n ≤ (most - (b - 128)) / 128 = t.le in
    let v : ℕ = (b - 128) + 128 * n in
    let low : 128 + v % 128 ≡ b = omega arith in
    let high : v / 128 ≡ n = omega arith in
    let groups_are : groups (suc f) v ≡ b ∷ groups f n = groups_big f v (omega arith) ∙ ap (λ (z : ℕ). z ∷ groups f (v / 128)) low ∙ ap (λ (z : ℕ). b ∷ groups f z) high in
    record { le = omega arith; may = inr (omega arith); is = ap (λ z. b ∷ z) t.is ∙ ap (λ z. z ++ rest) (sym groups_are) }

none_left : (first : Bool) (most : ℕ) → varint_at first most [] ≡ Err 0
unfolding varint_at
none_left first most = refl

varint_takes : (f : ℕ) (first : Bool) (most : ℕ) (bytes : List ℕ) (n : ℕ) (rest : List ℕ) → most < top f → IsBytes bytes → varint_at first most bytes ≡ Ok (n, rest) → Taken f first most bytes n rest
varint_takes f first most [] n rest lt ib e = not_both (varint_at first most []) (n, rest) 0 e (none_left first most)
varint_takes zero first most (b ∷ bytes) n rest lt ib e =
    elim (does first most b) [
      | inl bad ↦ not_both (varint_at first most (b ∷ bytes)) (n, rest) (suc (length bytes)) e (bad bytes)
      | inr good ↦ elim good [
        | inl last ↦
            let same = ok_is (b, bytes) (n, rest) (sym (last.reads bytes) ∙ e) in
            subst (λ (z : ℕ × List ℕ). Taken zero first most (b ∷ bytes) z.0 z.1) same (taken_small zero first most b bytes last)
        | inr on ↦ absurd (omega (arith, top_zero, on.big, on.le, lt))
      ]
    ]
varint_takes (suc f) first most (b ∷ bytes) n rest lt ib e =
    elim (does first most b) [
      | inl bad ↦ not_both (varint_at first most (b ∷ bytes)) (n, rest) (suc (length bytes)) e (bad bytes)
      | inr good ↦ elim good [
        | inl last ↦
            let same = ok_is (b, bytes) (n, rest) (sym (last.reads bytes) ∙ e) in
            subst (λ (z : ℕ × List ℕ). Taken (suc f) first most (b ∷ bytes) z.0 z.1) same (taken_small (suc f) first most b bytes last)
        | inr on ↦
            let x = bind_ok (varint_at false ((most - (b - 128)) / 128) bytes) (grouped (b - 128)) (n, rest) (sym (on.reads bytes) ∙ e) in
            let big : 128 ≤ b = on.big in
            let le : b ≤ most = on.le in
            let below : (most - (b - 128)) / 128 < top f = omega (arith, top_suc f) in
            let t = varint_takes f false ((most - (b - 128)) / 128) bytes x.0.0 x.0.1 below ib.1 x.1 in
            let same = ok_is ((b - 128) + 128 * x.0.0, x.0.1) (n, rest) x.2 in
            subst (λ (z : ℕ × List ℕ). Taken (suc f) first most (b ∷ bytes) z.0 z.1) same (taken_big f first most b x.0.0 bytes x.0.1 ib.0 on t)
      ]
    ]

grouped_ok : (low left : ℕ) (x : ℕ × List ℕ) → grouped low x ≡ Err left → ⊥
grouped_ok low left x e = absurd cc

varint_within : (first : Bool) (most : ℕ) (bytes : List ℕ) (left : ℕ) → varint_at first most bytes ≡ Err left → left ≤ length bytes
varint_within first most [] left e = let h = same_left 0 left (varint_at first most []) (none_left first most) e in omega (arith, h)
varint_within first most (b ∷ bytes) left e =
    elim (does first most b) [
      | inl bad ↦ let h = same_left (suc (length bytes)) left (varint_at first most (b ∷ bytes)) (bad bytes) e in omega (arith, h)
      | inr good ↦ elim good [
        | inl last ↦ not_both (varint_at first most (b ∷ bytes)) (b, bytes) left (last.reads bytes) e
        | inr on ↦ elim (bind_err (varint_at false ((most - (b - 128)) / 128) bytes) (grouped (b - 128)) left (sym (on.reads bytes) ∙ e)) [
          | inl inner ↦ let h = varint_within false ((most - (b - 128)) / 128) bytes left inner in omega (arith, h)
          | inr x ↦ absurd (grouped_ok (b - 128) left x.0 x.2)
        ]
      ]
    ]

varint_dead : (first : Bool) (most : ℕ) (front : List ℕ) (b : ℕ) (rest more : List ℕ) (y : ℕ × List ℕ) → varint_at first most (front ++ b ∷ rest) ≡ Err (suc (length rest)) → varint_at first most (front ++ b ∷ more) ≡ Ok y → ⊥
varint_dead first most [] b rest more y e k =
    elim (does first most b) [
      | inl bad ↦ not_both (varint_at first most (b ∷ more)) y (suc (length more)) k (bad more)
      | inr good ↦ elim good [
        | inl last ↦ not_both (varint_at first most (b ∷ rest)) (b, rest) (suc (length rest)) (last.reads rest) e
        | inr on ↦ elim (bind_err (varint_at false ((most - (b - 128)) / 128) rest) (grouped (b - 128)) (suc (length rest)) (sym (on.reads rest) ∙ e)) [
          | inl inner ↦ let h = varint_within false ((most - (b - 128)) / 128) rest (suc (length rest)) inner in omega (arith, h)
          | inr x ↦ grouped_ok (b - 128) (suc (length rest)) x.0 x.2
        ]
      ]
    ]
varint_dead first most (c ∷ front) b rest more y e k =
    elim (does first most c) [
      | inl bad ↦ not_both (varint_at first most (c ∷ (front ++ b ∷ more))) y (suc (length (front ++ b ∷ more))) k (bad (front ++ b ∷ more))
      | inr good ↦ elim good [
        | inl last ↦ not_both (varint_at first most (c ∷ (front ++ b ∷ rest))) (c, front ++ b ∷ rest) (suc (length rest)) (last.reads (front ++ b ∷ rest)) e
        | inr on ↦ elim (bind_err (varint_at false ((most - (c - 128)) / 128) (front ++ b ∷ rest)) (grouped (c - 128)) (suc (length rest)) (sym (on.reads (front ++ b ∷ rest)) ∙ e)) [
          | inl inner ↦
              let o = bind_ok (varint_at false ((most - (c - 128)) / 128) (front ++ b ∷ more)) (grouped (c - 128)) y (sym (on.reads (front ++ b ∷ more)) ∙ k) in
              varint_dead false ((most - (c - 128)) / 128) front b rest more o.0 inner o.1
          | inr x ↦ grouped_ok (c - 128) (suc (length rest)) x.0 x.2
        ]
      ]
    ]

pub top_nine : 2 ^ 64 < top 9
unfolding top
top_nine = omega arith

-- what is written of a number that has more groups
pub written_small : (old now : List ℕ) (n more : ℕ) → now ≡ old ++ n ∷ [] → n < 128 → now ≡ old ++ groups more n
written_small old now n more e lt = e ∙ ap (λ z. old ++ z) (sym (groups_small more n lt))

pub written_big : (old now after : List ℕ) (n more : ℕ) → now ≡ old ++ (128 + n % 128) ∷ [] → ((m : ℕ) → n / 128 < top m → after ≡ now ++ groups m (n / 128)) → 128 ≤ n → n < top more → after ≡ old ++ groups more n
written_big old now after n zero e rest ge lt = absurd (omega (arith, top_zero, lt))
written_big old now after n (suc more) e rest ge lt =
    rest more (omega (arith, top_suc more, lt)) ∙ ap (λ z. z ++ groups more (n / 128)) e ∙ append_assoc old ((128 + n % 128) ∷ []) (groups more (n / 128)) ∙ ap (λ z. old ++ z) (sym (groups_big more n ge))

pub varint_is : (n : ℕ) → varint_bytes n ≡ groups 9 n
unfolding varint_bytes
varint_is n = refl

groups_some : (f n : ℕ) → 0 < length (groups f n)
groups_some zero n = omega arith
groups_some (suc f) n = elim (cases_lt n 128) [ inl lt ↦ let e = ap length (groups_small (suc f) n lt) in omega (arith, e) | inr ge ↦ let e = ap length (groups_big f n ge) in omega (arith, e) ]

-- how many bytes a number below so much has
groups_short : (f n : ℕ) → length (groups f n) ≤ suc f
groups_short zero n = omega arith
groups_short (suc f) n = elim (cases_lt n 128) [ inl lt ↦ let e = ap length (groups_small (suc f) n lt) in omega (arith, e) | inr ge ↦ let e = ap length (groups_big f n ge) in let k = groups_short f (n / 128) in omega (arith, e, k) ]

pub varint_some : (n : ℕ) → 0 < length (varint_bytes n)
varint_some n = let e = ap length (varint_is n) in omega (arith, e, groups_some 9 n)

pub varint_short : (n : ℕ) → length (varint_bytes n) ≤ 10
varint_short n = let e = ap length (varint_is n) in omega (arith, e, groups_short 9 n)

pub varint_sound : (most : ℕ) → most < 2 ^ 64 → Sound (varint most) (λ n. n ≤ most)
unfolding varint_bytes
varint_sound most fits = record {
  again = λ n rest le. varint_again 9 true most n rest (omega (arith, top_nine)) le (inl refl);
  takes = λ bytes n rest ib e. let t = varint_takes 9 true most bytes n rest (omega (arith, top_nine)) ib e in (t.le, t.is);
  within = λ bytes left ib e. varint_within true most bytes left e;
  dead = λ front b rest more y ib e k. varint_dead true most front b rest more y e k;
}

-- ---- the faults of varints

-- some number of the state goes on with these
abbrev Room : Bool → ℕ → Type 0
Room first most = (first ≡ true) ⊎ (1 ≤ most)

pub record Goes (f : ℕ) (first : Bool) (most : ℕ) (bytes : List ℕ) (left : ℕ) : Type 0 where
  pub front : List ℕ
  pub rest : List ℕ
  pub is : bytes ≡ front ++ rest
  pub long : length rest ≡ left
  pub value : ℕ
  pub le : value ≤ most
  pub may : May first value
  pub more : List ℕ
  pub begins : groups f value ≡ front ++ more

least : (first : Bool) (most : ℕ) → Room first most → (n : ℕ) × (n ≤ most) × May first n
least first most r = elim r [ inl e ↦ (0, omega arith, inl e) | inr le ↦ (1, le, inr (omega arith)) ]

goes_here : (f : ℕ) (first : Bool) (most : ℕ) (bytes : List ℕ) → Room first most → Goes f first most bytes (length bytes)
goes_here f first most bytes r = let n = least first most r in record { front = []; rest = bytes; is = refl; long = refl; value = n.0; le = n.1; may = n.2; more = groups f n.0; begins = refl }

goes_further : (f : ℕ) (first : Bool) (most b : ℕ) (bytes : List ℕ) (left : ℕ) → b < 256 → GoesOn first most b → Goes f false ((most - (b - 128)) / 128) bytes left → Goes (suc f) first most (b ∷ bytes) left
goes_further f first most b bytes left byte h g =
    let t = taken_big f first most b g.value (groups f g.value) [] byte h (record { le = g.le; may = g.may; is = sym (append-nil (groups f g.value)) }) in
    record {
      front = b ∷ g.front;
      rest = g.rest;
      is = ap (λ z. b ∷ z) g.is;
      long = g.long;
      value = (b - 128) + 128 * g.value;
      le = t.le;
      may = t.may;
      more = g.more;
      begins = sym (append-nil (groups (suc f) ((b - 128) + 128 * g.value))) ∙ sym t.is ∙ ap (λ z. b ∷ z) g.begins;
    }

varint_goes : (f : ℕ) (first : Bool) (most : ℕ) (bytes : List ℕ) (left : ℕ) → most < top f → Room first most → IsBytes bytes → varint_at first most bytes ≡ Err left → Goes f first most bytes left
varint_goes f first most [] left lt r ib e = subst (Goes f first most []) (same_left 0 left (varint_at first most []) (none_left first most) e) (goes_here f first most [] r)
varint_goes zero first most (b ∷ bytes) left lt r ib e =
    elim (does first most b) [
      | inl bad ↦ subst (Goes zero first most (b ∷ bytes)) (same_left (suc (length bytes)) left (varint_at first most (b ∷ bytes)) (bad bytes) e) (goes_here zero first most (b ∷ bytes) r)
      | inr good ↦ elim good [
        | inl last ↦ not_both (varint_at first most (b ∷ bytes)) (b, bytes) left (last.reads bytes) e
        | inr on ↦ absurd (omega (arith, top_zero, on.big, on.le, lt))
      ]
    ]
varint_goes (suc f) first most (b ∷ bytes) left lt r ib e =
    elim (does first most b) [
      | inl bad ↦ subst (Goes (suc f) first most (b ∷ bytes)) (same_left (suc (length bytes)) left (varint_at first most (b ∷ bytes)) (bad bytes) e) (goes_here (suc f) first most (b ∷ bytes) r)
      | inr good ↦ elim good [
        | inl last ↦ not_both (varint_at first most (b ∷ bytes)) (b, bytes) left (last.reads bytes) e
        | inr on ↦ elim (bind_err (varint_at false ((most - (b - 128)) / 128) bytes) (grouped (b - 128)) left (sym (on.reads bytes) ∙ e)) [
          | inl inner ↦
              let big : 128 ≤ b = on.big in
              let le : b ≤ most = on.le in
              let below : (most - (b - 128)) / 128 < top f = omega (arith, top_suc f) in
              goes_further f first most b bytes left ib.0 on (varint_goes f false ((most - (b - 128)) / 128) bytes left below (inr (omega arith)) ib.1 inner)
          | inr x ↦ absurd (grouped_ok (b - 128) left x.0 x.2)
        ]
      ]
    ]

varint_stable : (first : Bool) (most : ℕ) (front : List ℕ) (b : ℕ) (rest more : List ℕ) → varint_at first most (front ++ b ∷ rest) ≡ Err (suc (length rest)) → varint_at first most (front ++ b ∷ more) ≡ Err (suc (length more))
varint_stable first most [] b rest more e =
    elim (does first most b) [
      | inl bad ↦ bad more
      | inr good ↦ elim good [
        | inl last ↦ not_both (varint_at first most (b ∷ rest)) (b, rest) (suc (length rest)) (last.reads rest) e
        | inr on ↦ elim (bind_err (varint_at false ((most - (b - 128)) / 128) rest) (grouped (b - 128)) (suc (length rest)) (sym (on.reads rest) ∙ e)) [
          | inl inner ↦ let h = varint_within false ((most - (b - 128)) / 128) rest (suc (length rest)) inner in absurd (omega (arith, h))
          | inr x ↦ absurd (grouped_ok (b - 128) (suc (length rest)) x.0 x.2)
        ]
      ]
    ]
varint_stable first most (c ∷ front) b rest more e =
    elim (does first most c) [
      | inl bad ↦ absurd (omega (arith, same_left _ _ (varint_at first most (c ∷ (front ++ b ∷ rest))) (bad (front ++ b ∷ rest)) e, length-append front (b ∷ rest)))
      | inr good ↦ elim good [
        | inl last ↦ not_both (varint_at first most (c ∷ (front ++ b ∷ rest))) (c, front ++ b ∷ rest) (suc (length rest)) (last.reads (front ++ b ∷ rest)) e
        | inr on ↦ elim (bind_err (varint_at false ((most - (c - 128)) / 128) (front ++ b ∷ rest)) (grouped (c - 128)) (suc (length rest)) (sym (on.reads (front ++ b ∷ rest)) ∙ e)) [
          | inl inner ↦ on.reads (front ++ b ∷ more) ∙ ap (λ r. r >>= grouped (c - 128)) (varint_stable false ((most - (c - 128)) / 128) front b rest more inner)
          | inr x ↦ absurd (grouped_ok (c - 128) (suc (length rest)) x.0 x.2)
        ]
      ]
    ]

pub varint_lawful : (most : ℕ) → most < 2 ^ 64 → Lawful (varint most) (λ n. n ≤ most)
unfolding varint_bytes
varint_lawful most fits =
    let s = varint_sound most fits in
    record {
      again = s.again;
      takes = s.takes;
      fault = λ bytes left ib e.
          let g = varint_goes 9 true most bytes left (omega (arith, top_nine)) (inl refl) ib e in
          record { front = g.front; rest = g.rest; is = g.is; long = g.long; begins = record { value = g.value; fits = g.le; more = g.more; is = g.begins } };
      stable = λ front b rest more ib e. varint_stable true most front b rest more e;
      some = 0;
      some_fits = omega arith;
    }
