-- Bytes of a header, place by place.
use Rattle.std.proofs.Common.{◌≡◌, ◌≢◌, ◌⊎◌, inl, inr, ⊎_elim, ℕ, zero, suc, ◌+◌, ◌-◌, ◌≤◌, ◌<◌, List, [], ◌∷◌, ◌++◌, length, drop, Some, None, Option, Bool, true, false, ◌&&◌, ◌||◌, eqb, ltb, refl, sym, ◌∙◌, ap, subst, arith}
use Rattle.std.specs.Prelude.{replicate, slice_index, nat_lt, ◌==◌, if◌then◌else◌}
use Rattle.std.specs.List.{list_all}
use Rattle.std.proofs.lemmas.Bool.{cases_eq}
use Rattle.std.proofs.lemmas.Bool.Decides.{nat_tests}
use Rattle.std.proofs.lemmas.List.{nil_from_length, drop_more, drop_all}
use Rattle.news_types.specs.Names.{is_name_byte}
use Rattle.news_journal.specs.Damage.{may_stand, misfit, header_damage}

only_then : (t : Bool) (a : Option (ℕ × Option ℕ)) (d : ℕ × Option ℕ) → (if t then a else Some d) ≡ None → (t ≡ true) × (a ≡ None)
only_then true a d is = (refl, is)
only_then false a d is = absurd (cc is)

-- the first byte stands there, and the others behind it
pub record Peeled (kind place before n : ℕ) (bytes : List ℕ) : Type 0 where
  pub byte : ℕ
  pub rest : List ℕ
  pub is : bytes ≡ byte ∷ rest
  pub stands : may_stand kind place before byte ≡ true
  pub left : misfit kind (place + 1) byte n rest ≡ None

pub peel : (kind place before n : ℕ) (bytes : List ℕ) → misfit kind place before (suc n) bytes ≡ None → Peeled kind place before n bytes
unfolding misfit
peel kind place before n [] fits = absurd (cc fits)
peel kind place before n (b ∷ bytes) fits =
    let both = only_then (may_stand kind place before b) (misfit kind (place + 1) b n bytes) (place, Some b) fits in
    record { byte = b; rest = bytes; is = refl; stands = both.0; left = both.1 }

-- a part of these bytes, and what fits behind it
pub record Part (kind place m : ℕ) (front bytes : List ℕ) : Type 0 where
  pub rest : List ℕ
  pub before : ℕ
  pub is : bytes ≡ front ++ rest
  pub left : misfit kind place before m rest ≡ None

-- places where only a zero may stand
pub zeros : (kind n m k place next before : ℕ) (bytes : List ℕ) → k ≡ n + m → next ≡ place + n → ((p b c : ℕ) → place ≤ p → p < next → may_stand kind p b c ≡ true → c ≡ 0)
    → misfit kind place before k bytes ≡ None → Part kind next m (replicate n 0) bytes
zeros kind zero m k place next before bytes size at zero_alone fits =
    let same : k ≡ m = omega arith in
    let here : place ≡ next = omega arith in
    record { rest = bytes; before = before; is = refl; left = subst (λ (p : ℕ). misfit kind p before m bytes ≡ None) here (subst (λ (j : ℕ). misfit kind place before j bytes ≡ None) same fits) }
zeros kind (suc n) m zero place next before bytes size at zero_alone fits = absurd (omega arith)
zeros kind (suc n) m (suc k) place next before bytes size at zero_alone fits =
    let p = peel kind place before k bytes fits in
    let first : p.byte ≡ 0 = zero_alone place before p.byte (omega arith) (omega arith) p.stands in
    let more = zeros kind n m k (place + 1) next p.byte p.rest (omega arith) (omega arith) (λ q b c from to stands. zero_alone q b c (omega arith) (omega arith) stands) p.left in
    record { rest = more.rest; before = more.before; is = p.is ∙ ap (λ (b : ℕ). b ∷ p.rest) first ∙ ap (λ (l : List ℕ). 0 ∷ l) more.is; left = more.left }

-- any bytes
pub record AnyPart (kind place m n : ℕ) (bytes : List ℕ) : Type 0 where
  pub front : List ℕ
  pub long : length front ≡ n
  pub part : Part kind place m front bytes

pub some : (kind n m k place next before : ℕ) (bytes : List ℕ) → k ≡ n + m → next ≡ place + n → misfit kind place before k bytes ≡ None → AnyPart kind next m n bytes
some kind zero m k place next before bytes size at fits =
    let same : k ≡ m = omega arith in
    let here : place ≡ next = omega arith in
    record { front = []; long = refl; part = record { rest = bytes; before = before; is = refl; left = subst (λ (p : ℕ). misfit kind p before m bytes ≡ None) here (subst (λ (j : ℕ). misfit kind place before j bytes ≡ None) same fits) } }
some kind (suc n) m zero place next before bytes size at fits = absurd (omega arith)
some kind (suc n) m (suc k) place next before bytes size at fits =
    let p = peel kind place before k bytes fits in
    let more = some kind n m k (place + 1) next p.byte p.rest (omega arith) (omega arith) p.left in
    record {
      front = p.byte ∷ more.front;
      long = ap (λ (j : ℕ). suc j) more.long;
      part = record { rest = more.part.rest; before = more.part.before; is = p.is ∙ ap (λ (l : List ℕ). p.byte ∷ l) more.part.is; left = more.part.left };
    }

-- what stands behind the first byte of a name
either_zero : (b : ℕ) (named : Bool) (before : ℕ) → ((b == 0) || (nat_lt 0 before && named)) ≡ true → (b ≡ 0) ⊎ ((0 < before) × (named ≡ true))
either_zero b named before is = elim (cases_eq b 0) [
  | inl same ↦ inl same
  | inr other ↦ inr (rest other)
]
  where
    rest : b ≢ 0 → (0 < before) × (named ≡ true)
    rest other = (grind (arith, nat_tests), grind (arith, nat_tests))

tail_stands : (kind place before b : ℕ) → kind ≢ 1 → 33 ≤ place → may_stand kind place before b ≡ true → (b ≡ 0) ⊎ ((0 < before) × (is_name_byte b ≡ true))
tail_stands kind place before b other far stands = either_zero b (is_name_byte b) before (computed ∙ stands)
  where
    computed : ((b == 0) || (nat_lt 0 before && is_name_byte b)) ≡ may_stand kind place before b
    computed =
        let a : ltb place 8 ≡ false = grind (arith, nat_tests) in
        let c : ltb place 10 ≡ false = grind (arith, nat_tests) in
        let e : ltb place 32 ≡ false = grind (arith, nat_tests) in
        let f : eqb kind 1 ≡ false = grind (arith, nat_tests) in
        let g : eqb place 32 ≡ false = grind (arith, nat_tests) in
        rw (a, c, e, f, g) refl

pub no_zero_name : (b : ℕ) → is_name_byte b ≡ true → 0 < b
no_zero_name zero is = absurd (cc is)
no_zero_name (suc b) is = omega arith

all_zero : (kind n place before : ℕ) (bytes : List ℕ) → kind ≢ 1 → 33 ≤ place → before ≡ 0 → length bytes ≡ n → misfit kind place before n bytes ≡ None → bytes ≡ replicate n 0
all_zero kind zero place before bytes other far none long fits = nil_from_length bytes long
all_zero kind (suc n) place before bytes other far none long fits =
    let p = peel kind place before n bytes fits in
    let first : p.byte ≡ 0 = ⊎_elim (λ z. z) (λ named. absurd (omega (arith, named.0))) (tail_stands kind place before p.byte other far p.stands) in
    p.is ∙ ap (λ (b : ℕ). b ∷ p.rest) first ∙ ap (λ (l : List ℕ). 0 ∷ l) (all_zero kind n (place + 1) p.byte p.rest other (omega arith) first (omega (arith, ap length p.is)) p.left)

-- letters of a name, filled with zeros
pub record Letters (n : ℕ) (bytes : List ℕ) : Type 0 where
  pub name : List ℕ
  pub form : list_all is_name_byte name ≡ true
  pub short : length name ≤ n
  pub is : bytes ≡ name ++ replicate (n - length name) 0

pub all_true : (s t : Bool) → s ≡ true → t ≡ true → (s && t) ≡ true
all_true s t p q = rw (p, q) refl

more_letters : (n b : ℕ) (rest bytes : List ℕ) → bytes ≡ b ∷ rest → is_name_byte b ≡ true → Letters n rest → Letters (suc n) bytes
more_letters n b rest bytes is named l = record {
  name = b ∷ l.name;
  form = all_true (is_name_byte b) (list_all is_name_byte l.name) named l.form;
  short = omega (arith, l.short);
  is = is ∙ ap (λ (r : List ℕ). b ∷ r) l.is ∙ ap (λ (k : ℕ). b ∷ (l.name ++ replicate k 0)) left;
}
  where
    left : n - length l.name ≡ suc n - length (b ∷ l.name)
    left = omega arith

all_left : (n : ℕ) → suc n ≡ suc n - 0
all_left n = omega arith

pub letters : (kind n place before : ℕ) (bytes : List ℕ) → kind ≢ 1 → 33 ≤ place → length bytes ≡ n → misfit kind place before n bytes ≡ None → Letters n bytes
letters kind zero place before bytes other far long fits = record { name = []; form = refl; short = omega arith; is = nil_from_length bytes long }
letters kind (suc n) place before bytes other far long fits =
    let p = peel kind place before n bytes fits in
    let size : length p.rest ≡ n = omega (arith, ap length p.is, long) in
    ⊎_elim
    (λ z. record { name = []; form = refl; short = omega arith; is = p.is ∙ ap (λ (b : ℕ). b ∷ p.rest) z ∙ ap (λ (l : List ℕ). 0 ∷ l) (all_zero kind n (place + 1) p.byte p.rest other (omega arith) z size p.left) ∙ ap (λ (k : ℕ). replicate k 0) (all_left n) })
    (λ named. more_letters n p.byte p.rest bytes p.is named.1 (letters kind n (place + 1) p.byte p.rest other (omega arith) size p.left))
    (tail_stands kind place before p.byte other far p.stands)

-- one place further in the search
pub step_is : (kind place before b n : ℕ) (bytes : List ℕ) → misfit kind place before (suc n) (b ∷ bytes) ≡ (if may_stand kind place before b then misfit kind (place + 1) b n bytes else Some (place, Some b))
unfolding misfit
step_is kind place before b n bytes = refl

pub choose : {A : Type 0} (t : Bool) (x y : A) → t ≡ true → (if t then x else y) ≡ x
choose true x y is = refl
choose false x y is = absurd (cc is)

refuse : {A : Type 0} (t : Bool) (x y : A) → t ≡ false → (if t then x else y) ≡ y
refuse true x y is = absurd (cc is)
refuse false x y is = refl

split_at : (place : ℕ) (bytes : List ℕ) → place < length bytes → drop place bytes ≡ slice_index bytes place ∷ drop (place + 1) bytes
split_at place bytes within = drop_more bytes place 0 within

missing_from : (kind place before n : ℕ) → misfit kind place before (suc n) [] ≡ Some (place, None)
unfolding misfit
missing_from kind place before n = refl

pub missing : (kind place before n : ℕ) (bytes : List ℕ) → 0 < n → length bytes ≤ place → misfit kind place before n (drop place bytes) ≡ Some (place, None)
missing kind place before zero bytes some past = absurd (omega arith)
missing kind place before (suc n) bytes some past = ap (λ (l : List ℕ). misfit kind place before (suc n) l) (drop_all place bytes past) ∙ missing_from kind place before n

pub goes_on : (kind place before n m : ℕ) (bytes : List ℕ) → n ≡ suc m → place < length bytes → may_stand kind place before (slice_index bytes place) ≡ true
    → misfit kind place before n (drop place bytes) ≡ misfit kind (place + 1) (slice_index bytes place) m (drop (place + 1) bytes)
goes_on kind place before n m bytes more within stands =
    ap (λ (k : ℕ). misfit kind place before k (drop place bytes)) more
    ∙ ap (λ (l : List ℕ). misfit kind place before (suc m) l) (split_at place bytes within)
    ∙ step_is kind place before (slice_index bytes place) m (drop (place + 1) bytes)
    ∙ choose (may_stand kind place before (slice_index bytes place)) _ _ stands

pub stops : (kind place before n : ℕ) (bytes : List ℕ) → 0 < n → place < length bytes → may_stand kind place before (slice_index bytes place) ≡ false
    → misfit kind place before n (drop place bytes) ≡ Some (place, Some (slice_index bytes place))
stops kind place before zero bytes some within stands = absurd (omega arith)
stops kind place before (suc n) bytes some within stands =
    ap (λ (l : List ℕ). misfit kind place before (suc n) l) (split_at place bytes within)
    ∙ step_is kind place before (slice_index bytes place) n (drop (place + 1) bytes)
    ∙ refuse (may_stand kind place before (slice_index bytes place)) _ _ stands

pub none_left : (kind place before : ℕ) (bytes : List ℕ) → misfit kind place before 0 bytes ≡ None
unfolding misfit
none_left kind place before bytes = refl

pub begun : (kind : ℕ) (bytes : List ℕ) → kind ≡ slice_index bytes 9 → header_damage bytes ≡ misfit kind 0 0 64 bytes
unfolding header_damage
begun kind bytes is = ap (λ (k : ℕ). misfit k 0 0 64 bytes) (sym is)
