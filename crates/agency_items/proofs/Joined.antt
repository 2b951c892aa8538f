-- Texts behind each other, with a mark between.
use Rattle.std.specs.Prelude.{◌≡◌, ℕ, List, [], ◌∷◌, ◌++◌, codes, length, Option, Some, None}
use Rattle.std.proofs.Common.{refl, sym, ap, ◌∙◌, append_assoc}
use Rattle.std.proofs.Math.Dec.{eqb-suc-zero}
use Rattle.agency_items.specs.Texts.{beside}
use Rattle.agency_items.specs.Lists.{name_beside}

beside_empty : (mark a : List ℕ) → beside mark a [] ≡ a
beside_empty mark [] = refl
beside_empty mark (x ∷ a) = rw (eqb-suc-zero (length a)) refl

filled : (mark : List ℕ) (x : ℕ) (a : List ℕ) (y : ℕ) (b : List ℕ) → beside mark (x ∷ a) (y ∷ b) ≡ ((x ∷ a) ++ mark) ++ (y ∷ b)
filled mark x a y b = rw (eqb-suc-zero (length a), eqb-suc-zero (length b)) refl

regrouped : (p m q r : List ℕ) → (p ++ m) ++ ((q ++ m) ++ r) ≡ (((p ++ m) ++ q) ++ m) ++ r
regrouped p m q r = simp append_assoc

beside_again : (mark a b c : List ℕ) → beside mark a (beside mark b c) ≡ beside mark (beside mark a b) c
beside_again mark [] b c = refl
beside_again mark (x ∷ a) [] c = ap (λ t. beside mark t c) (sym (beside_empty mark (x ∷ a)))
beside_again mark (x ∷ a) (y ∷ b) [] = ap (beside mark (x ∷ a)) (beside_empty mark (y ∷ b)) ∙ sym (beside_empty mark (beside mark (x ∷ a) (y ∷ b)))
beside_again mark (x ∷ a) (y ∷ b) (z ∷ c) =
    let left : beside mark (x ∷ a) (beside mark (y ∷ b) (z ∷ c)) ≡ ((x ∷ a) ++ mark) ++ (((y ∷ b) ++ mark) ++ (z ∷ c)) = ap (beside mark (x ∷ a)) (filled mark y b z c) ∙ filled mark x a y ((b ++ mark) ++ (z ∷ c)) in
    let right : beside mark (beside mark (x ∷ a) (y ∷ b)) (z ∷ c) ≡ ((((x ∷ a) ++ mark) ++ (y ∷ b)) ++ mark) ++ (z ∷ c) = ap (λ t. beside mark t (z ∷ c)) (filled mark x a y b) ∙ filled mark x ((a ++ mark) ++ (y ∷ b)) z c in
    left ∙ (regrouped (x ∷ a) mark (y ∷ b) (z ∷ c) ∙ sym right)

-- the names told so far, and those of the rest
abbrev pub told_and : List ℕ → Option (List ℕ) → Option (List ℕ)
told_and told None = None
told_and told (Some names) = Some (beside (codes ", ") told names)

pub told_first : (o : Option (List ℕ)) → told_and [] o ≡ o
told_first None = refl
told_first (Some names) = refl

pub told_next : (told name : List ℕ) (o : Option (List ℕ)) → told_and told (name_beside (Some name) o) ≡ told_and (beside (codes ", ") told name) o
told_next told name None = refl
told_next told name (Some names) = ap (λ n. Some n) (beside_again (codes ", ") told name names)

pub told_last : (told : List ℕ) → told_and told (Some []) ≡ Some told
told_last told = ap (λ n. Some n) (beside_empty (codes ", ") told)
