-- What holds of the second of two lists that go side by side.
use Rattle.std.proofs.Common.{◌≡◌, List, [], ◌∷◌, ◌++◌, length, All, refl, arith}
use Rattle.std.specs.List.{AllZip}
use Rattle.std.proofs.lemmas.List.Elements.{All-nil, All-cons, All-head, All-tail}

pub all_second : {X Y : Type 0} (R : X → Y → Type 0) (P : X → Type 0) (Q : Y → Type 0) → ((x : X) (y : Y) → R x y → P x → Q y) → (xs : List X) (ys : List Y) → AllZip R xs ys → All P xs → All Q ys
all_second R P Q f [] [] h p = All-nil Q
all_second R P Q f [] (y ∷ ys) h p = absurd h
all_second R P Q f (x ∷ xs) [] h p = absurd h
all_second R P Q f (x ∷ xs) (y ∷ ys) h p = All-cons Q y ys (f x y h.0 (All-head P x xs p)) (all_second R P Q f xs ys h.1 (All-tail P x xs p))

-- one more of both
pub zip_more : {X Y : Type 0} (R : X → Y → Type 0) (xs : List X) (ys : List Y) (x : X) (y : Y) → AllZip R xs ys → R x y → AllZip R (xs ++ x ∷ []) (ys ++ y ∷ [])
zip_more R [] [] x y h r = (r, tt)
zip_more R [] (z ∷ ys) x y h r = absurd h
zip_more R (w ∷ xs) [] x y h r = absurd h
zip_more R (w ∷ xs) (z ∷ ys) x y h r = (h.0, zip_more R xs ys x y h.1 r)

pub none_left : {X : Type 0} (xs : List X) → length xs ≡ 0 → xs ≡ []
none_left [] is = refl
none_left (x ∷ xs) is = absurd (omega (arith, is))
