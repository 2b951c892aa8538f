-- What is written behind what was written.
use Rattle.std.proofs.Common.{◌≡◌, ℕ, ◌<◌, ◌+◌, List, [], ◌∷◌, ◌++◌, length, take, get_or, sym, ap, ◌∙◌, append_assoc}
use Rattle.std.specs.List.{flat_map}
use Rattle.std.proofs.lemmas.List.{take_more, flat_map_more}

-- one piece, and then the rest
pub then : (x y z a b : List ℕ) → y ≡ x ++ a → z ≡ y ++ b → z ≡ x ++ (a ++ b)
then x y z a b e f = f ∙ ap (λ w. w ++ b) e ∙ append_assoc x a b

-- one more item of a list
pub item_written : {A : Type 0} (spell : A → List ℕ) (front : List ℕ) (xs : List A) (i : ℕ) (x : A) (before after : List ℕ)
    → i < length xs → x ≡ get_or xs i x → before ≡ front ++ flat_map spell (take i xs) → after ≡ before ++ spell x → after ≡ front ++ flat_map spell (take (i + 1) xs)
item_written {A} spell front xs i x before after lt is so_far more =
    let one : take i xs ++ x ∷ [] ≡ take (i + 1) xs = ap (λ (y : A). take i xs ++ y ∷ []) is ∙ sym (take_more xs i x lt) in
    more ∙ ap (λ z. z ++ spell x) so_far ∙ flat_map_more spell front (take i xs) x ∙ ap (λ z. front ++ flat_map spell z) one
