-- Things that are told by their names.
use Rattle.std.proofs.Common.{◌≡◌, ℕ, ◌+◌, ◌<◌, Bool, true, false, cond, List, [], ◌∷◌, ◌++◌, length, get_or, take, append-nil, refl, sym, ap, ◌∙◌}
use Rattle.std.specs.Prelude.{Vec}
use Rattle.std.specs.List.{filter, list_any}
use Rattle.std.proofs.lemmas.List.Elements.{filter_more}

pub by_cases : {G : Type 0} (b : Bool) → (b ≡ true → G) → (b ≡ false → G) → G
by_cases true first second = first refl
by_cases false first second = second refl

abbrev pub items_of : {A B : Type 0} → Vec A B → List A
items_of v = v.items

-- two tests that say the same
pub any_alike : {A : Type 0} (p q : A → Bool) → ((x : A) → p x ≡ q x) → (xs : List A) → list_any p xs ≡ list_any q xs
any_alike p q alike [] = refl
any_alike p q alike (x ∷ xs) = rw (alike x, any_alike p q alike xs) refl

-- a loop that keeps what passes
module _ {A : Type 0} (p : A → Bool) (xs : List A) (i : ℕ) (x : A) (lt : i < length xs) (is : x ≡ get_or xs i x) where
  step : (b : Bool) → p x ≡ b → filter p (take (i + 1) xs) ≡ filter p (take i xs) ++ cond b (x ∷ []) []
  step b here = filter_more p xs i x lt ∙ ap (λ y. filter p (take i xs) ++ cond (p y) (y ∷ []) []) (sym is) ∙ ap (λ c. filter p (take i xs) ++ cond c (x ∷ []) []) here

  pub kept_one : true ≡ p x → filter p (take i xs) ++ x ∷ [] ≡ filter p (take (i + 1) xs)
  kept_one here = sym (step true (sym here))

  pub passed_one : false ≡ p x → filter p (take i xs) ≡ filter p (take (i + 1) xs)
  passed_one here = sym (append-nil (filter p (take i xs))) ∙ sym (step false (sym here))
