-- All of the bytes: what they spell, or where nothing goes on with them.
use Rattle.std.proofs.Common.{◌≡◌, ℕ, suc, ◌<◌, ◌≤◌, ◌+◌, ◌-◌, List, [], ◌∷◌, ◌++◌, length, take, drop, length-drop, length-take, Result, Ok, Err, refl, sym, ap, subst, ◌∙◌, arith, append_assoc, Bool, false, cond, eqb, inl, inr, length-append}
use borrow.Author.Tests.{ne_eqb}
use Rattle.std.proofs.lemmas.List.{append-nil}
use Rattle.std.proofs.lemmas.List.{take-append-drop}
use Rattle.byte_formats.specs.Format.{Format}
use Rattle.byte_formats.specs.Gives.{all_of}
use Rattle.byte_formats.specs.Lawful.{Begins}
use Rattle.byte_formats.proofs.Laws.{IsBytes, bind_ok, bind_err, ok_is, not_both, same_left, same_tails}
use Rattle.std.proofs.Math.Seq.{take-append_seam, take-append-add}
use Rattle.byte_formats.specs.Places.{IsDeadAt}
use Rattle.byte_formats.proofs.Sounds.{Sound}

abbrev at_end : {A : Type 0} → A → ℕ → Bool → Result A ℕ
at_end x n b = cond b (Ok x) (Err n)

ended : {A : Type 0} (x : A) (rest : List ℕ) (y : A) → at_end x (length rest) (eqb (length rest) 0) ≡ Ok y → (rest ≡ []) × (x ≡ y)
ended x [] y e = (refl, cc)
ended x (b ∷ rest) y e =
    let more : eqb (length (b ∷ rest)) 0 ≡ false = ne_eqb _ _ (omega arith) in
    not_both (at_end x (suc (length rest)) (eqb (length (b ∷ rest)) 0)) y (suc (length rest)) e (ap (at_end x (suc (length rest))) more)

-- what is left past a value
left_over : {A : Type 0} (x : A) (rest : List ℕ) (left : ℕ) → at_end x (length rest) (eqb (length rest) 0) ≡ Err left → length rest ≡ left
left_over x [] left e = absurd cc
left_over x (b ∷ rest) left e =
    let more : eqb (length (b ∷ rest)) 0 ≡ false = ne_eqb _ _ (omega arith) in
    same_left _ left (at_end x (suc (length rest)) (eqb (length (b ∷ rest)) 0)) (ap (at_end x (suc (length rest))) more) e

module _ {A : Type 0} (F : Format A) (P : A → Type 0) (lf : Sound F P) where
  abbrev end_of : A × List ℕ → Result A ℕ
  end_of x = at_end x.0 (length x.1) (eqb (length x.1) 0)

  all_reads : (bytes : List ℕ) (x : A) → all_of F bytes ≡ Ok x → F.read bytes ≡ Ok (x, [])
  unfolding all_of
  all_reads bytes x h =
      let b = bind_ok (F.read bytes) end_of x h in
      let n = ended b.0.0 b.0.1 x b.2 in
      b.1 ∙ ap (λ (z : List ℕ). Ok (b.0.0, z)) n.0 ∙ ap (λ (z : A). Ok (z, [])) n.1

  pub all_takes : (bytes : List ℕ) (x : A) → IsBytes bytes → all_of F bytes ≡ Ok x → P x × (bytes ≡ F.spell x)
  all_takes bytes x ib h = let t = lf.takes bytes x [] ib (all_reads bytes x h) in (t.0, t.1 ∙ append-nil (F.spell x))

  pub all_again : (x : A) → P x → all_of F (F.spell x) ≡ Ok x
  unfolding all_of
  all_again x h = let e : F.read (F.spell x) ≡ Ok (x, []) = ap F.read (sym (append-nil (F.spell x))) ∙ lf.again x [] h in rw e refl

  -- no two values have one spelling
  pub one_spelling : (x y : A) → P x → P y → F.spell x ≡ F.spell y → x ≡ y
  one_spelling x y p q e = ok_is x y (sym (all_again x p) ∙ ap (all_of F) e ∙ all_again y q)

  pub all_within : (bytes : List ℕ) (left : ℕ) → IsBytes bytes → all_of F bytes ≡ Err left → left ≤ length bytes
  unfolding all_of
  all_within bytes left ib h =
      elim (bind_err (F.read bytes) end_of left h) [
        | inl bad ↦ lf.within bytes left ib bad
        | inr b ↦
            let t = lf.takes bytes b.0.0 b.0.1 ib b.1 in
            let o = left_over b.0.0 b.0.1 left b.2 in
            omega (arith, o, ap length t.1, length-append (F.spell b.0.0) b.0.1)
      ]

  pub all_dead : (front : List ℕ) (b : ℕ) (rest more : List ℕ) (x : A) → IsBytes (front ++ b ∷ rest) → all_of F (front ++ b ∷ rest) ≡ Err (suc (length rest)) → all_of F (front ++ b ∷ more) ≡ Ok x → ⊥
  unfolding all_of
  all_dead front b rest more x ib e k =
      let whole = all_reads (front ++ b ∷ more) x k in
      elim (bind_err (F.read (front ++ b ∷ rest)) end_of (suc (length rest)) e) [
        | inl bad ↦ lf.dead front b rest more (x, []) ib bad whole
        | inr s ↦
            let t = lf.takes (front ++ b ∷ rest) s.0.0 s.0.1 ib s.1 in
            let o = left_over s.0.0 s.0.1 (suc (length rest)) s.2 in
            let is = (same_tails (F.spell s.0.0) s.0.1 front (b ∷ rest) (sym t.1) (omega (arith, o))).0 in
            let again : F.read (front ++ b ∷ more) ≡ Ok (s.0.0, b ∷ more) = ap (λ z. F.read (z ++ b ∷ more)) (sym is) ∙ lf.again s.0.0 (b ∷ more) t.0 in
            let same : [] ≡ b ∷ more = ap (λ z. z.1) (ok_is (x, []) (s.0.0, b ∷ more) (sym whole ∙ again)) in
            cc (same)
      ]

  -- a fault inside the bytes
  dead_here : (front rest : List ℕ) → IsBytes (front ++ rest) → all_of F (front ++ rest) ≡ Err (length rest) → length front < length (front ++ rest) → Begins F.spell P (take (length front + 1) (front ++ rest)) → ⊥
  dead_here front [] ib bad lt begins = absurd (omega (arith, length-append front []))
  dead_here front (b ∷ rest) ib bad lt begins =
      let is : F.spell begins.value ≡ front ++ b ∷ begins.more = begins.is ∙ ap (λ z. z ++ begins.more) (take-append-add front (b ∷ rest) 1) ∙ append_assoc front (b ∷ []) begins.more in
      all_dead front b rest begins.more begins.value ib bad (ap (all_of F) (sym is) ∙ all_again begins.value begins.fits)

  dead_at : (front rest : List ℕ) → IsBytes (front ++ rest) → all_of F (front ++ rest) ≡ Err (length rest) → IsDeadAt F.spell P (front ++ rest) (length front)
  dead_at front rest ib bad = record {
    within = omega (arith, length-append front rest);
    here = dead_here front rest ib bad;
    none = λ x fits is. not_both (all_of F (front ++ rest)) x (length rest) (ap (all_of F) (sym is) ∙ all_again x fits) bad;
  }

  -- Nothing goes on with the bytes up to and with the place.
  pub all_fault : (bytes : List ℕ) (left : ℕ) → IsBytes bytes → all_of F bytes ≡ Err left → IsDeadAt F.spell P bytes (length bytes - left)
  all_fault bytes left ib h =
      let le = all_within bytes left ib h in
      let at : ℕ = length bytes - left in
      let parts : take at bytes ++ drop at bytes ≡ bytes = take-append-drop at bytes in
      let long : length (drop at bytes) ≡ left = omega (arith, length-drop at bytes) in
      let front : length (take at bytes) ≡ at = omega (arith, length-take at bytes) in
      let fault = dead_at (take at bytes) (drop at bytes) (subst IsBytes (sym parts) ib) (ap (all_of F) parts ∙ h ∙ ap (λ (n : ℕ). Err n) (sym long)) in
      subst (IsDeadAt F.spell P bytes) front (subst (λ z. IsDeadAt F.spell P z (length (take at bytes))) parts fault)
