-- Loops over those to whom something is due.
use Rattle.std.proofs.Common.{◌≡◌, ℕ, ◌+◌, ◌<◌, Bool, true, false, cond, List, [], ◌∷◌, ◌++◌, length, map, get_or, take, drop, Option, Some, None, sym, ap, ◌∙◌}
use Rattle.std.specs.Prelude.{unwrap_or}
use Rattle.std.proofs.lemmas.List.{map-append, take_more, at_drop_more}
use Rattle.news_types.specs.declared.query.Due.{Due}
use Rattle.news_types.specs.Names.{Bytes, same}
use Rattle.news_types.specs.Due.{release_to}

pub take_one : {A : Type 0} (xs : List A) (i : ℕ) (x : A) → i < length xs → x ≡ get_or xs i x → take i xs ++ x ∷ [] ≡ take (i + 1) xs
take_one xs i x lt is = ap (λ y. take i xs ++ y ∷ []) is ∙ sym (take_more xs i x lt)

pub map_one : {A B : Type 0} (f : A → B) (xs : List A) (i : ℕ) (x : A) → i < length xs → x ≡ get_or xs i x → map f (take i xs) ++ f x ∷ [] ≡ map f (take (i + 1) xs)
map_one f xs i x lt is = sym (map-append f (take i xs) (x ∷ [])) ∙ ap (map f) (take_one xs i x lt is)

-- the release for the subscriber, 0 where there is none
abbrev pub given : Bytes → List Due → ℕ
given s due = unwrap_or (release_to s due) 0

module _ (s : Bytes) (xs : List Due) (i : ℕ) (x : Due) (lt : i < length xs) (is : x ≡ get_or xs i x) where
  here : given s (drop i xs) ≡ unwrap_or (cond (same s x.subscriber) (Some x.release) (release_to s (drop (i + 1) xs))) 0
  here = at_drop_more (given s) xs i x lt ∙ ap (λ (y : Due). unwrap_or (cond (same s y.subscriber) (Some y.release) (release_to s (drop (i + 1) xs))) 0) (sym is)

  pub given_over : same s x.subscriber ≡ false → given s (drop (i + 1) xs) ≡ given s (drop i xs)
  given_over other = sym (here ∙ ap (λ b. unwrap_or (cond b (Some x.release) (release_to s (drop (i + 1) xs))) 0) other)

  pub given_hit : same s x.subscriber ≡ true → x.release ≡ given s (drop i xs)
  given_hit alike = sym (here ∙ ap (λ b. unwrap_or (cond b (Some x.release) (release_to s (drop (i + 1) xs))) 0) alike)
