-- The promise of a format that a state machine ends.
use Rattle.std.proofs.Common.{◌≡◌, ℕ, suc, ◌≤◌, List, [], ◌∷◌, ◌++◌, length, Option, Some, None, Result, Ok, Err, refl, sym, ap, subst, ◌∙◌, arith, inl, inr, ◌⊎◌, length-append}
use Rattle.byte_formats.specs.Format.{with_byte}
use Rattle.byte_formats.specs.Until.{until, until_at, taken}
use Rattle.byte_formats.proofs.Laws.{IsBytes, bind_ok, ok_is, not_both, same_left, Faults, Lawful}

abbrev pub IsWord : {S : Type 0} → (S → ℕ → Option (Option S)) → S → List ℕ → Type 0
IsWord step s [] = ⊥
IsWord {S} step s (b ∷ x) = ((step s b ≡ Some None) × (x ≡ [])) ⊎ ((t : S) × (step s b ≡ Some (Some t)) × IsWord step t x)

abbrev Cases : {S : Type 0} → Option (Option S) → Type 0
Cases {S} o = (o ≡ None) ⊎ ((o ≡ Some None) ⊎ ((t : S) × (o ≡ Some (Some t))))

cases : {S : Type 0} (o : Option (Option S)) → Cases o
cases None = inl refl
cases (Some None) = inr (inl refl)
cases (Some (Some t)) = inr (inr (t, refl))

with_fails : (b : ℕ) (r : Result (List ℕ × List ℕ) ℕ) (left : ℕ) → with_byte b r ≡ Err left → r ≡ Err left
with_fails b (Ok x) left e = absurd cc
with_fails b (Err n) left e = cc

module _ {S : Type 0} (step : S → ℕ → Option (Option S)) (I : S → Type 0)
    (keeps : (s : S) (b : ℕ) (t : S) → I s → step s b ≡ Some (Some t) → I t)
    (filler : (s : S) → I s → (x : List ℕ) × IsWord step s x × IsBytes x) where
  abbrev Fits : S → List ℕ → Type 0
  Fits s x = IsWord step s x × IsBytes x

  abbrev by : ℕ → List ℕ → Option (Option S) → Result (List ℕ × List ℕ) ℕ
  by b bytes o = taken o b bytes (λ t. with_byte b (until_at step t bytes))

  until_again : (s : S) (x rest : List ℕ) → IsWord step s x → until_at step s (x ++ rest) ≡ Ok (x, rest)
  unfolding until_at
  until_again s [] rest h = absurd h
  until_again s (b ∷ x) rest h =
      elim h [
        | inl last ↦ ap (by b (x ++ rest)) last.0 ∙ ap (λ (z : List ℕ). Ok (b ∷ [], z ++ rest)) last.1 ∙ ap (λ (z : List ℕ). Ok (b ∷ z, rest)) (sym last.1)
        | inr more ↦ ap (by b (x ++ rest)) more.1 ∙ ap (with_byte b) (until_again more.0 x rest more.2)
      ]

  until_takes : (s : S) (bytes x rest : List ℕ) → IsBytes bytes → until_at step s bytes ≡ Ok (x, rest) → Fits s x × (bytes ≡ x ++ rest)
  unfolding until_at
  until_takes s [] x rest ib e = absurd cc
  until_takes s (b ∷ bytes) x rest ib e =
      elim (cases (step s b)) [
        | inl bad ↦ not_both (by b bytes (step s b)) (x, rest) (suc (length bytes)) e (ap (by b bytes) bad)
        | inr good ↦ elim good [
          | inl last ↦
              let same = ok_is (b ∷ [], bytes) (x, rest) (sym (ap (by b bytes) last) ∙ e) in
              subst (λ (p : List ℕ × List ℕ). Fits s p.0 × (b ∷ bytes ≡ p.0 ++ p.1)) same ((inl (last, refl), (ib.0, tt)), refl)
          | inr on ↦
              let r = bind_ok (until_at step on.0 bytes) (λ y. Ok (b ∷ y.0, y.1)) (x, rest) (sym (ap (by b bytes) on.1) ∙ e) in
              let h = until_takes on.0 bytes r.0.0 r.0.1 ib.1 r.1 in
              let same = ok_is (b ∷ r.0.0, r.0.1) (x, rest) r.2 in
              subst (λ (p : List ℕ × List ℕ). Fits s p.0 × (b ∷ bytes ≡ p.0 ++ p.1)) same ((inr (on.0, on.1, h.0.0), (ib.0, h.0.1)), ap (λ z. b ∷ z) h.1)
        ]
      ]

  until_fault : (s : S) (bytes : List ℕ) (left : ℕ) → I s → IsBytes bytes → until_at step s bytes ≡ Err left → Faults (until step s) (Fits s) bytes left
  unfolding until_at
  until_fault s [] left i ib e =
      let x = filler s i in
      record { front = []; rest = []; is = refl; long = same_left 0 left (until_at step s []) refl e; begins = record { value = x.0; fits = (x.1, x.2); more = x.0; is = refl } }
  until_fault s (b ∷ bytes) left i ib e =
      elim (cases (step s b)) [
        | inl bad ↦
            let x = filler s i in
            record { front = []; rest = b ∷ bytes; is = refl; long = same_left (suc (length bytes)) left (by b bytes (step s b)) (ap (by b bytes) bad) e; begins = record { value = x.0; fits = (x.1, x.2); more = x.0; is = refl } }
        | inr good ↦ elim good [
          | inl last ↦ not_both (by b bytes (step s b)) (b ∷ [], bytes) left (ap (by b bytes) last) e
          | inr on ↦
              let f = until_fault on.0 bytes left (keeps s b on.0 i on.1) ib.1 (with_fails b (until_at step on.0 bytes) left (sym (ap (by b bytes) on.1) ∙ e)) in
              record {
                front = b ∷ f.front;
                rest = f.rest;
                is = ap (λ z. b ∷ z) f.is;
                long = f.long;
                begins = record { value = b ∷ f.begins.value; fits = (inr (on.0, on.1, f.begins.fits.0), (ib.0, f.begins.fits.1)); more = f.begins.more; is = ap (λ z. b ∷ z) f.begins.is };
              }
        ]
      ]

  until_left : (s : S) (bytes : List ℕ) (left : ℕ) → until_at step s bytes ≡ Err left → left ≤ length bytes
  unfolding until_at
  until_left s [] left e = let h = same_left 0 left (until_at step s []) refl e in omega (arith, h)
  until_left s (b ∷ bytes) left e =
      elim (cases (step s b)) [
        | inl bad ↦ let h = same_left (suc (length bytes)) left (by b bytes (step s b)) (ap (by b bytes) bad) e in omega (arith, h)
        | inr good ↦ elim good [
          | inl last ↦ not_both (by b bytes (step s b)) (b ∷ [], bytes) left (ap (by b bytes) last) e
          | inr on ↦ let h = until_left on.0 bytes left (with_fails b (until_at step on.0 bytes) left (sym (ap (by b bytes) on.1) ∙ e)) in omega (arith, h)
        ]
      ]

  until_stable : (s : S) (front : List ℕ) (b : ℕ) (rest more : List ℕ) → until_at step s (front ++ b ∷ rest) ≡ Err (suc (length rest)) → until_at step s (front ++ b ∷ more) ≡ Err (suc (length more))
  unfolding until_at
  until_stable s [] b rest more e =
      elim (cases (step s b)) [
        | inl bad ↦ ap (by b more) bad
        | inr good ↦ elim good [
          | inl last ↦ not_both (by b rest (step s b)) (b ∷ [], rest) (suc (length rest)) (ap (by b rest) last) e
          | inr on ↦ let h = until_left on.0 rest (suc (length rest)) (with_fails b (until_at step on.0 rest) (suc (length rest)) (sym (ap (by b rest) on.1) ∙ e)) in absurd (omega (arith, h))
        ]
      ]
  until_stable s (c ∷ front) b rest more e =
      elim (cases (step s c)) [
        | inl bad ↦ let h = same_left _ _ (by c (front ++ b ∷ rest) (step s c)) (ap (by c (front ++ b ∷ rest)) bad) e in absurd (omega (arith, h, length-append front (b ∷ rest)))
        | inr good ↦ elim good [
          | inl last ↦ not_both (by c (front ++ b ∷ rest) (step s c)) (c ∷ [], front ++ b ∷ rest) (suc (length rest)) (ap (by c (front ++ b ∷ rest)) last) e
          | inr on ↦
              let r = until_stable on.0 front b rest more (with_fails c (until_at step on.0 (front ++ b ∷ rest)) (suc (length rest)) (sym (ap (by c (front ++ b ∷ rest)) on.1) ∙ e)) in
              ap (by c (front ++ b ∷ more)) on.1 ∙ ap (with_byte c) r
        ]
      ]

  pub until_lawful : (s : S) → I s → Lawful (until step s) (λ x. IsWord step s x × IsBytes x)
  until_lawful s i = record {
    again = λ x rest h. until_again s x rest h.0;
    takes = λ bytes x rest ib e. until_takes s bytes x rest ib e;
    fault = λ bytes left ib e. until_fault s bytes left i ib e;
    stable = λ front b rest more ib e. until_stable s front b rest more e;
    some = (filler s i).0;
    some_fits = ((filler s i).1, (filler s i).2);
  }
