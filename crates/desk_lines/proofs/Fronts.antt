-- Lists that are read from their front.
use Rattle.std.specs.Prelude.{◌≡◌, suc, List, [], ◌∷◌, ◌++◌, length, Option, Some, None, Result, Ok, Err}
use Rattle.std.proofs.Common.{refl, ap}
use Rattle.serde_json.specs.View.{items_view}
use Rattle.serde_json.specs.declared.value.Value.{Value}
use Rattle.desk_lines.specs.declared.property.LineProperty.{LineProperty}
use Rattle.desk_lines.specs.Reading.{count}

-- what was read before
abbrev pub add_front : {A : Type 0} → List A → Option (List A) → Option (List A)
add_front front None = None
add_front front (Some found) = Some (front ++ found)

pub count_view : (xs : List Value) → count (items_view xs) ≡ length xs
count_view [] = refl
count_view (x ∷ xs) = ap suc (count_view xs)

-- the same, of what objects say
abbrev pub add_read : {A : Type 0} → List A → Result (List A) LineProperty → Result (List A) LineProperty
add_read front (Ok found) = Ok (front ++ found)
add_read front (Err p) = Err p
