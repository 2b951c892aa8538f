-- What is put in where there is room.
use Rattle.std.proofs.Common.{◌≡◌, List, cond, Result, Ok, Err, OnErr}
use Rattle.std.specs.Result.{is_ok}

-- what was put in where there is room is in
pub put_in : {T E : Type 0} {A : Type 0} {Q : Type 0} (r : Result T E) (xs ys zs : List A) → zs ≡ cond (is_ok r) xs ys → OnErr r Q → (Q → ⊥) → zs ≡ xs
put_in (Ok x) xs ys zs is full not = is
put_in (Err e) xs ys zs is full not = absurd (not full)
