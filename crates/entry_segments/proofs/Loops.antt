-- A loop that reads one value after the other.
use Rattle.std.proofs.Common.{◌≡◌, ℕ, suc, ◌<◌, ◌≤◌, ◌+◌, ◌-◌, List, [], ◌∷◌, ◌++◌, Result, Ok, Err, refl, sym, ap, ◌∙◌, arith, append_assoc, append-nil}
use Rattle.byte_formats.specs.declared.stop.Stopped.{Stopped}
use Rattle.byte_formats.specs.declared.stop.Stopped.TheVariants as stopped
use Rattle.byte_formats.specs.Gives.{Fails}
use Rattle.byte_formats.specs.Format.{Format, ◌>>=◌}
use Rattle.byte_formats.specs.Parts.{steps_at}
use Rattle.byte_formats.proofs.Scans.{with_items}

abbrev cons_to : {A : Type 0} → A → List A × List ℕ → Result (List A × List ℕ) ℕ
cons_to a xs = Ok (a ∷ xs.0, xs.1)

regroup : {A : Type 0} (front : List A) (a : A) (r : Result (List A × List ℕ) ℕ) → with_items front (r >>= cons_to a) ≡ with_items (front ++ a ∷ []) r
regroup {A} front a (Ok x) = ap (λ (z : List A). Ok (z, x.1)) (sym (append_assoc front (a ∷ []) x.0))
regroup front a (Err e) = refl

module _ {S A : Type 0} (F : S → Format A) (next : S → A → S) where
  pub step_read : (front : List A) (count i : ℕ) (s : S) (bytes after : List ℕ) (a : A) (total : Result (List A × List ℕ) ℕ) → i < count → (F s).read bytes ≡ Ok (a, after)
      → with_items front (steps_at F next (count - i) s bytes) ≡ total → with_items (front ++ a ∷ []) (steps_at F next (count - (i + 1)) (next s a) after) ≡ total
  unfolding steps_at
  step_read front count i s bytes after a total lt e so_far =
      let k : count - i ≡ suc (count - (i + 1)) = omega arith in
      let one : with_items front (steps_at F next (count - i) s bytes) ≡ with_items (front ++ a ∷ []) (steps_at F next (count - (i + 1)) (next s a) after) =
      rw (k, e) (regroup front a (steps_at F next (count - (i + 1)) (next s a) after)) in
      sym one ∙ so_far

  pub step_fails : (e : Stopped) (front : List A) (count i : ℕ) (s : S) (bytes : List ℕ) (total : Result (List A × List ℕ) ℕ) → i < count → Fails e ((F s).read bytes)
      → with_items front (steps_at F next (count - i) s bytes) ≡ total → Fails e total
  unfolding steps_at
  step_fails stopped.Memory front count i s bytes total lt h so_far = tt
  step_fails (stopped.Left left) front count i s bytes total lt h so_far =
      let k : count - i ≡ suc (count - (i + 1)) = omega arith in
      let one : with_items front (steps_at F next (count - i) s bytes) ≡ Err left = rw (k, h) refl in
      sym so_far ∙ one

  pub steps_done : (front : List A) (count i : ℕ) (s : S) (bytes : List ℕ) (total : Result (List A × List ℕ) ℕ) → count ≤ i → with_items front (steps_at F next (count - i) s bytes) ≡ total → total ≡ Ok (front, bytes)
  unfolding steps_at
  steps_done front count i s bytes total le so_far =
      let k : count - i ≡ 0 = omega arith in
      let one : with_items front (steps_at F next (count - i) s bytes) ≡ Ok (front, bytes) = rw k (ap (λ (z : List A). Ok (z, bytes)) (append-nil front)) in
      sym so_far ∙ one
