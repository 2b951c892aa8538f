-- Entries of lists.
use Rattle.std.proofs.Common.{◌≡◌, ℕ, zero, suc, ◌<◌, ◌≤◌, List, [], ◌∷◌, length, map, get_or, set, slice_get, Option, Some, None, MatchOption, Bor, refl, sym, ap, ◌∙◌, arith}
use Rattle.std.specs.Option.{option_copied, option_map}
use Rattle.std.specs.List.{HoldsAt}

pub slice_get_at : {A : Type 0} (xs : List A) (i : ℕ) (d : A) → i < length xs → slice_get xs i ≡ Some (get_or xs i d)
slice_get_at [] i d lt = absurd (omega (arith, lt))
slice_get_at (x ∷ xs) zero d lt = refl
slice_get_at (x ∷ xs) (suc i) d lt = slice_get_at xs i d (omega (arith, lt))

pub slice_get_past : {A : Type 0} (xs : List A) (i : ℕ) → length xs ≤ i → slice_get xs i ≡ None
slice_get_past [] i le = refl
slice_get_past (x ∷ xs) zero le = absurd (omega (arith, le))
slice_get_past (x ∷ xs) (suc i) le = slice_get_past xs i (omega (arith, le))

pub read_at : (xs : List ℕ) (i : ℕ) (o : Option (Bor ℕ)) → MatchOption o (length xs ≤ i) (λ x. (i < length xs) × HoldsAt (λ y. x.now ≡ y) xs i) → option_copied o ≡ slice_get xs i
read_at xs i None past = sym (slice_get_past xs i past)
read_at xs i (Some x) at = ap Some (at.1 0) ∙ sym (slice_get_at xs i 0 at.0)

pub get_map : {A B : Type 0} (f : A → B) (xs : List A) (i : ℕ) → slice_get (map f xs) i ≡ option_map f (slice_get xs i)
get_map f [] i = refl
get_map f (x ∷ xs) zero = refl
get_map f (x ∷ xs) (suc i) = get_map f xs i

pub set_set : {A : Type 0} (xs : List A) (i : ℕ) (x y : A) → set (set xs i x) i y ≡ set xs i y
set_set [] i x y = refl
set_set (z ∷ zs) zero x y = refl
set_set (z ∷ zs) (suc i) x y = ap (λ ws. z ∷ ws) (set_set zs i x y)
