-- Rows as items of an array.
use Rattle.std.proofs.Common.{◌≡◌, ℕ, ◌+◌, ◌<◌, List, [], ◌∷◌, ◌++◌, length, map, get_or, take, refl, sym, ap, ◌∙◌}
use Rattle.std.proofs.lemmas.List.{map-append, take_more}
use Rattle.serde_json.specs.Data.{Items, no_items, item, object, Members}
use Rattle.told_objects.specs.Members.{objects}

-- some items and then others
abbrev pub items_then : Items → Items → Items
items_then no_items rest = rest
items_then (item d ds) rest = item d (items_then ds rest)

pub then_none : (ds : Items) → items_then ds no_items ≡ ds
then_none no_items = refl
then_none (item d ds) = ap (item d) (then_none ds)

-- one row more
pub then_one : {A : Type 0} (f : A → Members) (xs : List A) (x : A) (rest : Items) → items_then (objects f (xs ++ x ∷ [])) rest ≡ items_then (objects f xs) (item (object (f x)) rest)
then_one f [] x rest = refl
then_one f (y ∷ xs) x rest = ap (item (object (f y))) (then_one f xs x rest)

-- rows that are told as what they hold
pub objects_in : {A B : Type 0} (f : B → Members) (g : A → B) (xs : List A) → objects (λ x. f (g x)) xs ≡ objects f (map g xs)
objects_in f g [] = refl
objects_in f g (x ∷ xs) = ap (item (object (f (g x)))) (objects_in f g xs)

-- a loop over a list that makes a row of each
pub take_one : {A : Type 0} (xs : List A) (i : ℕ) (x : A) → i < length xs → x ≡ get_or xs i x → take i xs ++ x ∷ [] ≡ take (i + 1) xs
take_one xs i x lt is = ap (λ y. take i xs ++ y ∷ []) is ∙ sym (take_more xs i x lt)

pub map_one : {A B : Type 0} (f : A → B) (xs : List A) (i : ℕ) (x : A) → i < length xs → x ≡ get_or xs i x → map f (take i xs) ++ f x ∷ [] ≡ map f (take (i + 1) xs)
map_one f xs i x lt is = sym (map-append f (take i xs) (x ∷ [])) ∙ ap (map f) (take_one xs i x lt is)

-- the same members make the same objects
pub same_objects : {A B : Type 0} (f : A → Members) (g : B → Members) (xs : List A) (ys : List B) → map f xs ≡ map g ys → objects f xs ≡ objects g ys
same_objects f g xs ys same =
    objects_in (λ (m : Members). m) f xs ∙ ap (objects (λ (m : Members). m)) same ∙ sym (objects_in (λ (m : Members). m) g ys)
