-- The numbers of each item's publications.
use Rattle.std.specs.Prelude.{◌<◌, ◌==◌, ℕ, List, [], ◌∷◌, ◌++◌, Option, Some, None, Vec, nat_eq, nat_lt, reverse, unwrap_or, vec_len, vec_capacity, if◌then◌else◌}
use Rattle.std.specs.List.{find}
use Rattle.std.specs.HashMap.{HashMap, get}
use Rattle.news_types.specs.Due.{Pub}

-- those in the list, or none
abbrev pub listed : {A : Type 0} → Option (Vec ℕ A) → List ℕ
listed None = []
listed (Some v) = v.items

-- the numbers of an item's publications among these (newest first), in order
abbrev pub numbers_of : ℕ → List Pub → List ℕ
numbers_of i [] = []
numbers_of i (p ∷ ps) = if p.item == i then numbers_of i ps ++ p.number ∷ [] else numbers_of i ps

-- the last of the numbers that is below this one, or 0
abbrev pub last_below : ℕ → List ℕ → ℕ
last_below below numbers = unwrap_or (find (λ n. nat_lt n below) (reverse numbers)) 0

-- in the list there is room for one more
abbrev pub FitsOne : {A : Type 0} → Option (Vec ℕ A) → Type 0
FitsOne None = ⊥
FitsOne (Some v) = vec_len v < vec_capacity v

-- there is room for one more number of the item
pub record HasPlace {S A : Type 0} (numbers : HashMap ℕ (Vec ℕ A) S) (i : ℕ) : Type 0 where
  pub fits : FitsOne (get nat_eq numbers i)
