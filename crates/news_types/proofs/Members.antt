-- Members of lists.
use Rattle.std.proofs.Common.{◌≡◌, ℕ, zero, suc, ◌<◌, ◌≤◌, Bool, true, false, cond, Option, Some, None, List, [], ◌∷◌, ◌++◌, length, refl, subst, arith}
use Rattle.std.specs.List.{slice_get, filter}
use Rattle.std.specs.Option.{option_map}
use Rattle.std.specs.Cmp.Lexicographic.{bytes_decides}
use Rattle.news_types.specs.Names.{Bytes, same}
use Rattle.news_types.specs.Frames.{numbered}
use Rattle.news_types.specs.Members.{Each}

pub same_is : (a b : Bytes) → same a b ≡ true → a ≡ b
same_is a b alike = (bytes_decides a b).0 alike

pub same_self : (a : Bytes) → same a a ≡ true
same_self a = (bytes_decides a a).1 (λ i. a)

pub some_is : {A : Type 0} (x y : A) → Some x ≡ Some y → x ≡ y
some_is x y h = cc

pub none_some : {A : Type 0} (x : A) → None ≡ Some x → ⊥
none_some x h = cc

pub each_map : {A : Type 0} (P Q : A → Type 0) (xs : List A) → ((x : A) → P x → Q x) → Each P xs → Each Q xs
each_map P Q [] f all = tt
each_map P Q (x ∷ xs) f all = (f x all.0, each_map P Q xs f all.1)

pub each_get : {A : Type 0} (P : A → Type 0) (xs : List A) (i : ℕ) (x : A) → Each P xs → slice_get xs i ≡ Some x → P x
each_get P [] i x all is = absurd (none_some x is)
each_get P (y ∷ ys) zero x all is = subst P (some_is y x is) all.0
each_get P (y ∷ ys) (suc i) x all is = each_get P ys i x all.1 is

pub get_more : {A : Type 0} (xs ys : List A) (i : ℕ) (x : A) → slice_get xs i ≡ Some x → slice_get (xs ++ ys) i ≡ Some x
get_more [] ys i x is = absurd (none_some x is)
get_more (z ∷ zs) ys zero x is = is
get_more (z ∷ zs) ys (suc i) x is = get_more zs ys i x is

pub numbered_more : {A : Type 0} (xs ys : List A) (k : ℕ) (x : A) → numbered xs k ≡ Some x → numbered (xs ++ ys) k ≡ Some x
numbered_more xs ys zero x is = absurd (none_some x is)
numbered_more xs ys (suc i) x is = get_more xs ys i x is

pub get_within : {A : Type 0} (xs : List A) (i : ℕ) (x : A) → slice_get xs i ≡ Some x → i < length xs
get_within [] i x is = absurd (none_some x is)
get_within (z ∷ zs) zero x is = omega arith
get_within (z ∷ zs) (suc i) x is = omega (arith, get_within zs i x is)

pub numbered_within : {A : Type 0} (xs : List A) (k : ℕ) (x : A) → numbered xs k ≡ Some x → k ≤ length xs
numbered_within xs zero x is = absurd (none_some x is)
numbered_within xs (suc i) x is = omega (arith, get_within xs i x is)

pub numbered_none : {A : Type 0} (k : ℕ) (x : A) → numbered [] k ≡ Some x → ⊥
numbered_none zero x is = none_some x is
numbered_none (suc i) x is = none_some x is

pub mapped : {A B : Type 0} (f : A → B) (o : Option A) (y : B) → option_map f o ≡ Some y → (x : A) × (o ≡ Some x) × (f x ≡ y)
mapped f None y is = absurd (none_some y is)
mapped f (Some x) y is = (x, refl, some_is (f x) y is)

pub each_append : {A : Type 0} (P : A → Type 0) (xs ys : List A) → Each P xs → Each P ys → Each P (xs ++ ys)
each_append P [] ys one two = two
each_append P (x ∷ xs) ys one two = (one.0, each_append P xs ys one.1 two)

pub each_filter : {A : Type 0} (P : A → Type 0) (t : A → Bool) (xs : List A) → Each P xs → Each P (filter t xs)
each_filter P t [] all = tt
each_filter P t (x ∷ xs) all =
    elim (t x) as (λ b. Each P (cond b (x ∷ filter t xs) (filter t xs))) [
      | true ↦ (all.0, each_filter P t xs all.1)
      | false ↦ each_filter P t xs all.1
    ]

-- what was filtered passes the test
pub each_passes : {A : Type 0} (P : A → Type 0) (t : A → Bool) (xs : List A) → ((x : A) → t x ≡ true → P x) → Each P (filter t xs)
each_passes P t [] passes = tt
each_passes P t (x ∷ xs) passes =
    elim (t x) as (λ b. t x ≡ b → Each P (cond b (x ∷ filter t xs) (filter t xs))) [
      | true ↦ λ yes. (passes x yes, each_passes P t xs passes)
      | false ↦ λ no. each_passes P t xs passes
    ] refl
