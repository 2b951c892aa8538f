-- Loops over names.
use Rattle.std.proofs.Common.{◌≡◌, ℕ, ◌+◌, ◌<◌, Bool, true, false, ◌&&◌, ◌||◌, cond, List, [], ◌∷◌, ◌++◌, append-nil, length, get_or, take, drop, map, Some, sym, ap, ◌∙◌}
use Rattle.std.proofs.lemmas.List.{at_drop_more, map_more}
use Rattle.std.proofs.lemmas.List.Elements.{filter_more}
use Rattle.std.specs.List.{list_any, list_all, find, filter}
use Rattle.news_types.specs.Names.{Bytes}

module _ (p : Bytes → Bool) (xs : List Bytes) (i : ℕ) (x : Bytes) (lt : i < length xs) (is : x ≡ get_or xs i x) where
  any_here : list_any p (drop i xs) ≡ (p x || list_any p (drop (i + 1) xs))
  any_here = at_drop_more (λ ys. list_any p ys) xs i x lt ∙ ap (λ y. p y || list_any p (drop (i + 1) xs)) (sym is)

  pub any_over : p x ≡ false → list_any p (drop (i + 1) xs) ≡ list_any p (drop i xs)
  any_over fails = sym (any_here ∙ ap (λ b. b || list_any p (drop (i + 1) xs)) fails)

  pub any_hit : p x ≡ true → true ≡ list_any p (drop i xs)
  any_hit holds = sym (any_here ∙ ap (λ b. b || list_any p (drop (i + 1) xs)) holds)

  all_here : list_all p (drop i xs) ≡ (p x && list_all p (drop (i + 1) xs))
  all_here = at_drop_more (λ ys. list_all p ys) xs i x lt ∙ ap (λ y. p y && list_all p (drop (i + 1) xs)) (sym is)

  pub all_over : p x ≡ true → list_all p (drop (i + 1) xs) ≡ list_all p (drop i xs)
  all_over holds = sym (all_here ∙ ap (λ b. b && list_all p (drop (i + 1) xs)) holds)

  pub all_hit : p x ≡ false → false ≡ list_all p (drop i xs)
  all_hit fails = sym (all_here ∙ ap (λ b. b && list_all p (drop (i + 1) xs)) fails)

  filter_here : filter p (take (i + 1) xs) ≡ filter p (take i xs) ++ cond (p x) (x ∷ []) []
  filter_here = filter_more p xs i x lt ∙ ap (λ y. filter p (take i xs) ++ cond (p y) (y ∷ []) []) (sym is)

  pub filter_with : p x ≡ true → filter p (take i xs) ++ x ∷ [] ≡ filter p (take (i + 1) xs)
  filter_with holds = sym (filter_here ∙ ap (λ b. filter p (take i xs) ++ cond b (x ∷ []) []) holds)

  pub filter_without : p x ≡ false → filter p (take i xs) ≡ filter p (take (i + 1) xs)
  filter_without fails = sym (filter_here ∙ ap (λ b. filter p (take i xs) ++ cond b (x ∷ []) []) fails ∙ append-nil (filter p (take i xs)))

  find_here : find p (drop i xs) ≡ cond (p x) (Some x) (find p (drop (i + 1) xs))
  find_here = at_drop_more (λ (ys : List Bytes). find p ys) xs i x lt ∙ ap (λ (y : Bytes). cond (p y) (Some y) (find p (drop (i + 1) xs))) (sym is)

  pub find_over : p x ≡ false → find p (drop (i + 1) xs) ≡ find p (drop i xs)
  find_over fails = sym (find_here ∙ ap (λ (b : Bool). cond b (Some x) (find p (drop (i + 1) xs))) fails)

  pub find_hit : p x ≡ true → Some x ≡ find p (drop i xs)
  find_hit holds = sym (find_here ∙ ap (λ (b : Bool). cond b (Some x) (find p (drop (i + 1) xs))) holds)

-- one more of what is made of each
pub map_with : {A : Type 0} (f : Bytes → A) (xs : List Bytes) (i : ℕ) (x : Bytes) → i < length xs → x ≡ get_or xs i x → map f (take i xs) ++ f x ∷ [] ≡ map f (take (i + 1) xs)
map_with f xs i x lt is = sym (map_more f xs i x lt ∙ ap (λ (y : Bytes). map f (take i xs) ++ f y ∷ []) (sym is))
