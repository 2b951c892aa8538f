-- The promise of the small formats.
use Rattle.std.proofs.Common.{◌≡◌, ℕ, zero, suc, ◌<◌, ◌≤◌, List, [], ◌∷◌, ◌++◌, length, Option, Some, None, Result, Ok, Err, refl, sym, ap, subst, ◌∙◌, arith, inl, inr, ◌⊎◌, length-append}
use Rattle.std.specs.List.{flat_map, AllByRecursion}
use Rattle.std.proofs.lemmas.Bool.{cases_lt, le-ltb, lt-ltb}
use Rattle.std.proofs.lemmas.List.{nil_from_length}
use Rattle.std.proofs.lemmas.List.Concat.{flat_map-cons}
use Rattle.byte_formats.specs.Format.{Format, ◌>>=◌, chain, pair, made, nothing, ranged, byte_at, many, many_at, scan_at, scanned, allowed, with_byte}
use Rattle.byte_formats.proofs.Laws.{IsBytes, bind_ok, ok_is, not_both, Faults, Lawful, chain_lawful, via}

abbrev done : {A : Type 0} → A → Result A ℕ
done x = Ok x

-- ---- one byte

chosen_at : (b least most : ℕ) (bytes : List ℕ) → least ≤ b → b ≤ most → byte_at least most (b ∷ bytes) ≡ Ok (b, bytes)
chosen_at b least most bytes lo hi = rw (le-ltb _ _ lo, le-ltb _ _ hi) refl

byte_takes : (least most b : ℕ) (bytes : List ℕ) (x : ℕ × List ℕ) → byte_at least most (b ∷ bytes) ≡ Ok x → (least ≤ b) × (b ≤ most) × ((b, bytes) ≡ x)
byte_takes least most b bytes x e =
    elim (cases_lt b least) [
      | inl lt ↦ not_both _ x (suc (length bytes)) e (rw (lt-ltb _ _ lt) refl)
      | inr lo ↦ elim (cases_lt most b) [
        | inl lt ↦ not_both _ x (suc (length bytes)) e (rw (le-ltb _ _ lo, lt-ltb _ _ lt) refl)
        | inr hi ↦ (lo, hi, ok_is (b, bytes) x (sym (chosen_at b least most bytes lo hi) ∙ e))
      ]
    ]

same_left : {A : Type 0} (n m : ℕ) (r : Result A ℕ) → r ≡ Err n → r ≡ Err m → n ≡ m
same_left n m r e h = cc

byte_fails : (least most b left : ℕ) (bytes more : List ℕ) → byte_at least most (b ∷ bytes) ≡ Err left → (left ≡ suc (length bytes)) × (byte_at least most (b ∷ more) ≡ Err (suc (length more)))
byte_fails least most b left bytes more e =
    elim (cases_lt b least) [
      | inl lt ↦ let h = lt-ltb _ _ lt in (same_left left (suc (length bytes)) _ e (rw h refl), rw h refl)
      | inr lo ↦ elim (cases_lt most b) [
        | inl lt ↦ let h = lt-ltb _ _ lt in let k = le-ltb _ _ lo in (same_left left (suc (length bytes)) _ e (rw (k, h) refl), rw (k, h) refl)
        | inr hi ↦ not_both _ (b, bytes) left (chosen_at b least most bytes lo hi) e
      ]
    ]

ranged_takes : (least most : ℕ) (bytes : List ℕ) (b : ℕ) (rest : List ℕ) → IsBytes bytes → byte_at least most bytes ≡ Ok (b, rest) → ((least ≤ b) × (b ≤ most)) × (bytes ≡ (b ∷ []) ++ rest)
ranged_takes least most [] b rest ib e = absurd cc
ranged_takes least most (c ∷ bytes) b rest ib e =
    let h = byte_takes least most c bytes (b, rest) e in
    subst (λ (x : ℕ × List ℕ). ((least ≤ x.0) × (x.0 ≤ most)) × (c ∷ bytes ≡ (x.0 ∷ []) ++ x.1)) h.2 ((h.0, h.1), refl)

ranged_fault : (least most : ℕ) → least ≤ most → (bytes : List ℕ) (left : ℕ) → IsBytes bytes → byte_at least most bytes ≡ Err left → Faults (ranged least most) (λ b. (least ≤ b) × (b ≤ most)) bytes left
ranged_fault least most le [] left ib e =
    record { front = []; rest = []; is = refl; long = same_left 0 left (byte_at least most []) refl e; begins = record { value = least; fits = (omega arith, le); more = least ∷ []; is = refl } }
ranged_fault least most le (c ∷ bytes) left ib e =
    record { front = []; rest = c ∷ bytes; is = refl; long = sym (byte_fails least most c left bytes bytes e).0; begins = record { value = least; fits = (omega arith, le); more = least ∷ []; is = refl } }

ranged_stable : (least most : ℕ) (front : List ℕ) (b : ℕ) (rest more : List ℕ) → IsBytes (front ++ b ∷ rest) → byte_at least most (front ++ b ∷ rest) ≡ Err (suc (length rest)) → byte_at least most (front ++ b ∷ more) ≡ Err (suc (length more))
ranged_stable least most [] b rest more ib e = (byte_fails least most b (suc (length rest)) rest more e).1
ranged_stable least most (c ∷ front) b rest more ib e = absurd (omega (arith, (byte_fails least most c (suc (length rest)) (front ++ b ∷ rest) [] e).0, length-append front (b ∷ rest)))

pub ranged_lawful : (least most : ℕ) → least ≤ most → Lawful (ranged least most) (λ b. (least ≤ b) × (b ≤ most))
ranged_lawful least most le = record {
  again = λ b rest h. chosen_at b least most rest h.0 h.1;
  takes = ranged_takes least most;
  fault = ranged_fault least most le;
  stable = ranged_stable least most;
  some = least;
  some_fits = (omega arith, le);
}

-- ---- nothing

pub nothing_lawful : {A : Type 0} (x : A) → Lawful (nothing x) (λ y. y ≡ x)
nothing_lawful x = record {
  again = λ y rest e. ap (λ z. Ok (z, rest)) (sym e);
  takes = λ bytes y rest ib e. let h = ok_is (x, bytes) (y, rest) e in (sym (ap (λ z. z.0) h), ap (λ z. z.1) h);
  fault = λ bytes left ib e. not_both (Ok (x, bytes)) (x, bytes) left refl e;
  stable = λ front b rest more ib e. not_both (Ok (x, front ++ b ∷ rest)) (x, front ++ b ∷ rest) (suc (length rest)) refl e;
  some = x;
  some_fits = refl;
}

-- ---- two after one another

bind_again : {A : Type 0} (r : Result (A × List ℕ) ℕ) → r ≡ (r >>= λ x. Ok (x.0, x.1))
bind_again (Ok x) = refl
bind_again (Err e) = refl

abbrev beside : {A B : Type 0} → Format B → A → Format (A × B)
beside G a = made G (λ y. (a, y)) (λ p. G.spell p.1)

beside_lawful : {A B : Type 0} (G : Format B) (Q : B → Type 0) (a : A) → Lawful G Q → Lawful (beside G a) (λ p. (p.0 ≡ a) × Q p.1)
beside_lawful G Q a lg = via G Q (beside G a) (λ p. (p.0 ≡ a) × Q p.1) (λ y. (a, y)) lg (λ bytes. refl) (λ y q. ((refl, q), refl)) (λ p h. (p.1, h.1, ap (λ z. (z, p.1)) (sym h.0)))

pub pair_lawful : {A B : Type 0} (F : Format A) (P : A → Type 0) (G : Format B) (Q : B → Type 0) → Lawful F P → Lawful G Q → Lawful (pair F G) (λ p. P p.0 × Q p.1)
pair_lawful F P G Q lf lg =
    via (chain F (beside G) (λ p. p.0)) (λ p. P p.0 × ((p.0 ≡ p.0) × Q p.1)) (pair F G) (λ p. P p.0 × Q p.1) (λ p. p)
    (chain_lawful F P (beside G) (λ a p. (p.0 ≡ a) × Q p.1) (λ p. p.0) lf (λ a h. beside_lawful G Q a lg) (λ a p h q. q.0))
    (λ bytes. bind_again ((pair F G).read bytes)) (λ p h. ((h.0, h.1.1), refl)) (λ p h. (p, (h.0, (refl, h.1)), refl))

-- ---- many

none_lawful : {A : Type 0} (F : Format A) (P : A → Type 0) → Lawful (many F 0) (λ xs. (length xs ≡ 0) × AllByRecursion P xs)
unfolding many_at
none_lawful {A} F P =
    via {A = List A} (nothing []) (λ xs. xs ≡ []) (many F 0) (λ xs. (length xs ≡ 0) × AllByRecursion P xs) (λ xs. xs) (nothing_lawful [])
    (λ bytes. refl) (λ xs e. subst (λ ys. ((length ys ≡ 0) × AllByRecursion P ys) × (flat_map F.spell ys ≡ [])) (sym e) ((refl, tt), refl)) (λ xs h. (xs, nil_from_length xs h.0, refl))

abbrev paired : {A B : Type 0} → A → B × List ℕ → Result ((A × B) × List ℕ) ℕ
paired x y = Ok ((x, y.0), y.1)

abbrev joined : {A : Type 0} → (A × List A) × List ℕ → Result (List A × List ℕ) ℕ
joined z = Ok (z.0.0 ∷ z.0.1, z.1)

regroup_then : {A : Type 0} (x : A) (r : Result (List A × List ℕ) ℕ) → (r >>= λ xs. Ok (x ∷ xs.0, xs.1)) ≡ ((r >>= paired x) >>= joined)
regroup_then x (Ok y) = refl
regroup_then x (Err e) = refl

uncons : {A : Type 0} (P : A → Type 0) (n : ℕ) (xs : List A) → (length xs ≡ suc n) × AllByRecursion P xs → (p : A × List A) × (P p.0 × ((length p.1 ≡ n) × AllByRecursion P p.1)) × (p.0 ∷ p.1 ≡ xs)
uncons P n [] h = absurd (omega (arith, h.0))
uncons P n (x ∷ xs) h = ((x, xs), (h.1.0, (omega (arith, h.0), h.1.1)), refl)

regroup : {A : Type 0} (F : Format A) (n : ℕ) (r : Result (A × List ℕ) ℕ) → (r >>= λ x. many_at F n x.1 >>= λ xs. Ok (x.0 ∷ xs.0, xs.1)) ≡ ((r >>= λ x. many_at F n x.1 >>= paired x.0) >>= joined)
regroup F n (Err e) = refl
regroup F n (Ok x) = regroup_then x.0 (many_at F n x.1)

pub many_lawful : {A : Type 0} (F : Format A) (P : A → Type 0) (n : ℕ) → Lawful F P → Lawful (many F n) (λ xs. (length xs ≡ n) × AllByRecursion P xs)
unfolding many_at
many_lawful {A} F P zero lf = none_lawful F P
many_lawful {A} F P (suc n) lf =
    let R : List A → Type 0 = λ xs. (length xs ≡ suc n) × AllByRecursion P xs in
    via (pair F (many F n)) (λ p. P p.0 × ((length p.1 ≡ n) × AllByRecursion P p.1)) (many F (suc n)) R (λ p. p.0 ∷ p.1)
    (pair_lawful F P (many F n) (λ xs. (length xs ≡ n) × AllByRecursion P xs) lf (many_lawful F P n lf))
    (λ bytes. regroup F n (F.read bytes)) (λ p h. ((ap suc h.1.0, (h.0, h.1.1)), flat_map-cons F.spell p.0 p.1)) (uncons P n)

-- ---- so many bytes, each one allowed by a state

abbrev pub IsScanned : {S : Type 0} → (ℕ → S → ℕ → Option S) → ℕ → S → List ℕ → Type 0
IsScanned step zero s [] = Unit {0}
IsScanned step zero s (b ∷ bytes) = ⊥
IsScanned step (suc n) s [] = ⊥
IsScanned {S} step (suc n) s (b ∷ bytes) = (t : S) × (step n s b ≡ Some t) × IsScanned step n t bytes

abbrev IsAllowed : {S : Type 0} → Option S → Type 0
IsAllowed {S} o = (o ≡ None) ⊎ ((t : S) × (o ≡ Some t))

allowed_cases : {S : Type 0} (o : Option S) → IsAllowed o
allowed_cases None = inl refl
allowed_cases (Some t) = inr (t, refl)

with_byte_fails : (b : ℕ) (r : Result (List ℕ × List ℕ) ℕ) (left : ℕ) → with_byte b r ≡ Err left → r ≡ Err left
with_byte_fails b (Ok x) left e = absurd cc
with_byte_fails b (Err n) left e = cc

-- a fault lies within the bytes
scan_left : {S : Type 0} (step : ℕ → S → ℕ → Option S) (n : ℕ) (s : S) (bytes : List ℕ) (left : ℕ) → scan_at step n s bytes ≡ Err left → left ≤ length bytes
unfolding scan_at
scan_left step zero s bytes left e = not_both (Ok ([], bytes)) ([], bytes) left refl e
scan_left step (suc n) s [] left e = let h = same_left 0 left (scan_at step (suc n) s []) refl e in omega (arith, h)
scan_left step (suc n) s (b ∷ bytes) left e =
    elim (allowed_cases (step n s b)) [
      | inl bad ↦ let h = same_left (suc (length bytes)) left (scan_at step (suc n) s (b ∷ bytes)) (ap (λ o. allowed o (suc (length bytes)) (λ t. with_byte b (scan_at step n t bytes))) bad) e in omega (arith, h)
      | inr good ↦ let h = scan_left step n good.0 bytes left (with_byte_fails b (scan_at step n good.0 bytes) left (sym (ap (λ o. allowed o (suc (length bytes)) (λ t. with_byte b (scan_at step n t bytes))) good.1) ∙ e)) in omega (arith, h)
    ]

module _ {S : Type 0} (step : ℕ → S → ℕ → Option S) (I : ℕ → S → Type 0)
    (keeps : (n : ℕ) (s : S) (b : ℕ) (t : S) → I (suc n) s → step n s b ≡ Some t → I n t)
    (filler : (n : ℕ) (s : S) → I (suc n) s → (b : ℕ) × (b < 256) × (t : S) × (step n s b ≡ Some t)) where
  abbrev Scans : ℕ → S → List ℕ → Type 0
  Scans n s x = IsScanned step n s x × IsBytes x

  scan_again : (n : ℕ) (s : S) (x rest : List ℕ) → IsScanned step n s x → scan_at step n s (x ++ rest) ≡ Ok (x, rest)
  unfolding scan_at
  scan_again zero s [] rest h = refl
  scan_again zero s (b ∷ x) rest h = absurd h
  scan_again (suc n) s [] rest h = absurd h
  scan_again (suc n) s (b ∷ x) rest h =
      ap (λ o. allowed o (suc (length (x ++ rest))) (λ t. with_byte b (scan_at step n t (x ++ rest)))) h.1 ∙ ap (with_byte b) (scan_again n h.0 x rest h.2)

  scan_takes : (n : ℕ) (s : S) (bytes x rest : List ℕ) → IsBytes bytes → scan_at step n s bytes ≡ Ok (x, rest) → Scans n s x × (bytes ≡ x ++ rest)
  unfolding scan_at
  scan_takes zero s bytes x rest ib e =
      let same = ok_is ([], bytes) (x, rest) e in
      subst (λ (p : List ℕ × List ℕ). Scans 0 s p.0 × (bytes ≡ p.0 ++ p.1)) same ((tt, tt), refl)
  scan_takes (suc n) s [] x rest ib e = absurd cc
  scan_takes (suc n) s (b ∷ bytes) x rest ib e =
      elim (allowed_cases (step n s b)) [
        | inl bad ↦ not_both _ (x, rest) (suc (length bytes)) e (ap (λ o. allowed o (suc (length bytes)) (λ t. with_byte b (scan_at step n t bytes))) bad)
        | inr good ↦
            let e' = sym (ap (λ o. allowed o (suc (length bytes)) (λ t. with_byte b (scan_at step n t bytes))) good.1) ∙ e in
            let r = bind_ok (scan_at step n good.0 bytes) (λ y. Ok (b ∷ y.0, y.1)) (x, rest) e' in
            let h = scan_takes n good.0 bytes r.0.0 r.0.1 ib.1 r.1 in
            let same = ok_is (b ∷ r.0.0, r.0.1) (x, rest) r.2 in
            subst (λ (p : List ℕ × List ℕ). Scans (suc n) s p.0 × (b ∷ bytes ≡ p.0 ++ p.1)) same (((good.0, good.1, h.0.0), (ib.0, h.0.1)), ap (λ z. b ∷ z) h.1)
      ]

  fill : (n : ℕ) (s : S) → I n s → (x : List ℕ) × Scans n s x
  fill zero s i = ([], (tt, tt))
  fill (suc n) s i = let f = filler n s i in let x = fill n f.2 (keeps n s f.0 f.2 i f.3) in (f.0 ∷ x.0, ((f.2, f.3, x.1.0), (f.1, x.1.1)))

  scan_fault : (n : ℕ) (s : S) (bytes : List ℕ) (left : ℕ) → I n s → IsBytes bytes → scan_at step n s bytes ≡ Err left → Faults (scanned step s n) (Scans n s) bytes left
  unfolding scan_at
  scan_fault zero s bytes left i ib e = not_both (Ok ([], bytes)) ([], bytes) left refl e
  scan_fault (suc n) s [] left i ib e =
      let x = fill (suc n) s i in
      record { front = []; rest = []; is = refl; long = same_left 0 left (scan_at step (suc n) s []) refl e; begins = record { value = x.0; fits = x.1; more = x.0; is = refl } }
  scan_fault (suc n) s (b ∷ bytes) left i ib e =
      elim (allowed_cases (step n s b)) [
        | inl bad ↦
            let x = fill (suc n) s i in
            let h = ap (λ o. allowed o (suc (length bytes)) (λ t. with_byte b (scan_at step n t bytes))) bad in
            record { front = []; rest = b ∷ bytes; is = refl; long = same_left (suc (length bytes)) left _ h e; begins = record { value = x.0; fits = x.1; more = x.0; is = refl } }
        | inr good ↦
            let e' = sym (ap (λ o. allowed o (suc (length bytes)) (λ t. with_byte b (scan_at step n t bytes))) good.1) ∙ e in
            let r = with_byte_fails b (scan_at step n good.0 bytes) left e' in
            let f = scan_fault n good.0 bytes left (keeps n s b good.0 i good.1) ib.1 r in
            record {
              front = b ∷ f.front;
              rest = f.rest;
              is = ap (λ z. b ∷ z) f.is;
              long = f.long;
              begins = record { value = b ∷ f.begins.value; fits = ((good.0, good.1, f.begins.fits.0), (ib.0, f.begins.fits.1)); more = f.begins.more; is = ap (λ z. b ∷ z) f.begins.is };
            }
      ]

  scan_stable : (n : ℕ) (s : S) (front : List ℕ) (b : ℕ) (rest more : List ℕ) → scan_at step n s (front ++ b ∷ rest) ≡ Err (suc (length rest)) → scan_at step n s (front ++ b ∷ more) ≡ Err (suc (length more))
  unfolding scan_at
  scan_stable zero s front b rest more e = not_both (Ok ([], front ++ b ∷ rest)) ([], front ++ b ∷ rest) (suc (length rest)) refl e
  scan_stable (suc n) s [] b rest more e =
      elim (allowed_cases (step n s b)) [
        | inl bad ↦ ap (λ o. allowed o (suc (length more)) (λ t. with_byte b (scan_at step n t more))) bad
        | inr good ↦
            let e' = sym (ap (λ o. allowed o (suc (length rest)) (λ t. with_byte b (scan_at step n t rest))) good.1) ∙ e in
            let short = scan_left step n good.0 rest (suc (length rest)) (with_byte_fails b (scan_at step n good.0 rest) (suc (length rest)) e') in
            absurd (omega (arith, short))
      ]
  scan_stable (suc n) s (c ∷ front) b rest more e =
      elim (allowed_cases (step n s c)) [
        | inl bad ↦
            let h = ap (λ o. allowed o (suc (length (front ++ b ∷ rest))) (λ t. with_byte c (scan_at step n t (front ++ b ∷ rest)))) bad in
            absurd (omega (arith, same_left _ _ (scan_at step (suc n) s (c ∷ (front ++ b ∷ rest))) h e, length-append front (b ∷ rest)))
        | inr good ↦
            let e' = sym (ap (λ o. allowed o (suc (length (front ++ b ∷ rest))) (λ t. with_byte c (scan_at step n t (front ++ b ∷ rest)))) good.1) ∙ e in
            let r = scan_stable n good.0 front b rest more (with_byte_fails c (scan_at step n good.0 (front ++ b ∷ rest)) (suc (length rest)) e') in
            ap (λ o. allowed o (suc (length (front ++ b ∷ more))) (λ t. with_byte c (scan_at step n t (front ++ b ∷ more)))) good.1 ∙ ap (with_byte c) r
      ]

  pub scanned_lawful : (n : ℕ) (s : S) → I n s → Lawful (scanned step s n) (λ x. IsScanned step n s x × IsBytes x)
  scanned_lawful n s i = record {
    again = λ x rest h. scan_again n s x rest h.0;
    takes = λ bytes x rest ib e. scan_takes n s bytes x rest ib e;
    fault = λ bytes left ib e. scan_fault n s bytes left i ib e;
    stable = λ front b rest more ib e. scan_stable n s front b rest more e;
    some = (fill n s i).0;
    some_fits = (fill n s i).1;
  }
