-- All of the bytes: what they spell, or where no value's spelling goes on with them.
use Rattle.std.proofs.Common.{◌≡◌, ℕ, suc, ◌<◌, ◌≤◌, ◌+◌, ◌-◌, List, [], ◌∷◌, ◌++◌, length, take, Result, Ok, Err, refl, sym, ap, subst, ◌∙◌, arith, append_assoc, Bool, false, cond, eqb, inl, inr, length-append}
use borrow.Author.Tests.{ne_eqb}
use Rattle.std.proofs.lemmas.List.{append-nil}
use Rattle.std.proofs.Math.Seq.{take-append_seam, take-append-add}
use Rattle.byte_formats.specs.Faults.{IsFaultAt}
use Rattle.byte_formats.specs.Format.{Format}
use Rattle.byte_formats.specs.Gives.{all_of}
use Rattle.byte_formats.proofs.Laws.{IsBytes, Begins, bind_ok, bind_err, ok_is, not_both, same_left, Lawful}

abbrev at_end : {A : Type 0} → A → ℕ → Bool → Result A ℕ
at_end x n b = cond b (Ok x) (Err n)

ended : {A : Type 0} (x : A) (rest : List ℕ) (y : A) → at_end x (length rest) (eqb (length rest) 0) ≡ Ok y → (rest ≡ []) × (x ≡ y)
ended x [] y e = (refl, cc)
ended x (b ∷ rest) y e =
    let more : eqb (length (b ∷ rest)) 0 ≡ false = ne_eqb _ _ (omega arith) in
    not_both (at_end x (suc (length rest)) (eqb (length (b ∷ rest)) 0)) y (suc (length rest)) e (ap (at_end x (suc (length rest))) more)

-- what is left past a value
left_over : {A : Type 0} (x : A) (rest : List ℕ) (left : ℕ) → at_end x (length rest) (eqb (length rest) 0) ≡ Err left → (b : ℕ) × (r : List ℕ) × (rest ≡ b ∷ r) × (length rest ≡ left)
left_over x [] left e = absurd cc
left_over x (b ∷ rest) left e =
    let more : eqb (length (b ∷ rest)) 0 ≡ false = ne_eqb _ _ (omega arith) in
    (b, rest, refl, same_left _ left (at_end x (suc (length rest)) (eqb (length (b ∷ rest)) 0)) (ap (at_end x (suc (length rest))) more) e)

module _ {A : Type 0} (F : Format A) (P : A → Type 0) (lf : Lawful F P) where
  pub all_takes : (bytes : List ℕ) (x : A) → IsBytes bytes → all_of F bytes ≡ Ok x → P x × (bytes ≡ F.spell x)
  unfolding all_of
  all_takes bytes x ib h =
      let b = bind_ok (F.read bytes) (λ x. cond (eqb (length x.1) 0) (Ok x.0) (Err (length x.1))) x h in
      let t = lf.takes bytes b.0.0 b.0.1 ib b.1 in
      let n = ended b.0.0 b.0.1 x b.2 in
      subst (λ z. P z × (bytes ≡ F.spell z)) n.1 (t.0, t.1 ∙ ap (λ z. F.spell b.0.0 ++ z) n.0 ∙ append-nil (F.spell b.0.0))

  again_alone : (x : A) → P x → F.read (F.spell x) ≡ Ok (x, [])
  again_alone x h = ap F.read (sym (append-nil (F.spell x))) ∙ lf.again x [] h

  pub all_again : (x : A) → P x → all_of F (F.spell x) ≡ Ok x
  unfolding all_of
  all_again x h = rw (again_alone x h) refl

  -- no two values have one spelling
  pub one_spelling : (x y : A) → P x → P y → F.spell x ≡ F.spell y → x ≡ y
  one_spelling x y p q e = ok_is x y (sym (all_again x p) ∙ ap (all_of F) e ∙ all_again y q)

  abbrev ReadsAs : List ℕ → A × List ℕ → Type 0
  ReadsAs bytes x = F.read bytes ≡ Ok x

  inside_here : (front rest : List ℕ) → IsBytes (front ++ rest) → F.read (front ++ rest) ≡ Err (length rest) → length front < length (front ++ rest) → Begins F.spell P (take (length front + 1) (front ++ rest)) → ⊥
  inside_here front [] ib bad lt begins = absurd (omega (arith, length-append front []))
  inside_here front (b ∷ rest) ib bad lt begins =
      let ends = lf.stable front b rest begins.more ib bad in
      let is : F.spell begins.value ≡ front ++ b ∷ begins.more =
      begins.is ∙ ap (λ z. z ++ begins.more) (take-append-add front (b ∷ rest) 1) ∙ append_assoc front (b ∷ []) begins.more in
      not_both (F.read (front ++ b ∷ begins.more)) (begins.value, []) (suc (length begins.more)) (subst (λ z. ReadsAs z (begins.value, [])) is (again_alone begins.value begins.fits)) ends

  -- a fault inside a value
  inside : (front rest : List ℕ) → IsBytes (front ++ rest) → F.read (front ++ rest) ≡ Err (length rest) → Begins F.spell P front → IsFaultAt F.spell P (front ++ rest) (length front)
  inside front rest ib bad begins =
      record {
        within = omega (arith, length-append front rest);
        before = subst (Begins F.spell P) (sym (take-append_seam front rest)) begins;
        here = inside_here front rest ib bad;
        none = λ x fits is. not_both (F.read (front ++ rest)) (x, []) (length rest) (subst (λ z. ReadsAs z (x, [])) is (again_alone x fits)) bad;
      }

  two : (x : A) → P x → (b : ℕ) (rest : List ℕ) (other : A) → P other → F.spell other ≡ F.spell x ++ b ∷ rest → ⊥
  two x fits b rest other other_fits is =
      let one = lf.again x (b ∷ rest) fits in
      let second = subst (λ z. ReadsAs z (other, [])) is (again_alone other other_fits) in
      let same = ap (λ z. z.1) (ok_is (other, []) (x, b ∷ rest) (sym second ∙ one)) in
      cc (same)

  -- bytes past a value
  past : (x : A) → P x → (b : ℕ) (rest : List ℕ) → IsFaultAt F.spell P (F.spell x ++ b ∷ rest) (length (F.spell x))
  past x fits b rest =
      record {
        within = omega (arith, length-append (F.spell x) (b ∷ rest));
        before = record { value = x; fits = fits; more = []; is = sym (append-nil _ ∙ take-append_seam (F.spell x) (b ∷ rest)) };
        here = λ lt begins. two x fits b begins.more begins.value begins.fits (begins.is ∙ ap (λ z. z ++ begins.more) (take-append-add (F.spell x) (b ∷ rest) 1) ∙ append_assoc (F.spell x) (b ∷ []) begins.more);
        none = λ other other_fits is. two x fits b rest other other_fits is;
      }

  pub all_fault : (bytes : List ℕ) (left : ℕ) → IsBytes bytes → all_of F bytes ≡ Err left → IsFaultAt F.spell P bytes (length bytes - left)
  unfolding all_of
  all_fault bytes left ib h =
      elim (bind_err (F.read bytes) (λ x. at_end x.0 (length x.1) (eqb (length x.1) 0)) left h) [
        | inl bad ↦
            let f = lf.fault bytes left ib bad in
            let at : length f.front ≡ length (f.front ++ f.rest) - left = omega (arith, length-append f.front f.rest, f.long) in
            let same : F.read (f.front ++ f.rest) ≡ Err (length f.rest) = ap F.read (sym f.is) ∙ bad ∙ ap (λ n. Err n) (sym f.long) in
            let fault = inside f.front f.rest (subst IsBytes f.is ib) same f.begins in
            subst (λ z. IsFaultAt F.spell P z (length z - left)) (sym f.is) (subst (IsFaultAt F.spell P (f.front ++ f.rest)) at fault)
        | inr b ↦
            let t = lf.takes bytes b.0.0 b.0.1 ib b.1 in
            let o = left_over b.0.0 b.0.1 left b.2 in
            let is : bytes ≡ F.spell b.0.0 ++ o.0 ∷ o.1 = t.1 ∙ ap (λ z. F.spell b.0.0 ++ z) o.2 in
            let n : suc (length o.1) ≡ left = sym (ap length o.2) ∙ o.3 in
            let at : length (F.spell b.0.0) ≡ length (F.spell b.0.0 ++ o.0 ∷ o.1) - left = omega (arith, length-append (F.spell b.0.0) (o.0 ∷ o.1)) in
            subst (λ z. IsFaultAt F.spell P z (length z - left)) (sym is) (subst (IsFaultAt F.spell P (F.spell b.0.0 ++ o.0 ∷ o.1)) at (past b.0.0 t.0 o.0 o.1))
      ]

  pub all_within : (bytes : List ℕ) (left : ℕ) → IsBytes bytes → all_of F bytes ≡ Err left → left ≤ length bytes
  unfolding all_of
  all_within bytes left ib h =
      elim (bind_err (F.read bytes) (λ x. at_end x.0 (length x.1) (eqb (length x.1) 0)) left h) [
        | inl bad ↦ let f = lf.fault bytes left ib bad in omega (arith, f.long, ap length f.is, length-append f.front f.rest)
        | inr b ↦
            let t = lf.takes bytes b.0.0 b.0.1 ib b.1 in
            let o = left_over b.0.0 b.0.1 left b.2 in
            omega (arith, o.3, ap length t.1, length-append (F.spell b.0.0) b.0.1)
      ]
