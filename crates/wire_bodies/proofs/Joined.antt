-- Rows with a comma between each two.
use Rattle.std.proofs.Common.{◌≡◌, List, [], ◌∷◌, ◌++◌, ℕ, map, refl, ap}
use Rattle.std.specs.Global.{Vec}
use Rattle.std.specs.List.{flat_map, join_by}

-- the items of the parts that are told, and then put in a row
items_flat : (sep : List ℕ) (rows : List (Vec ℕ)) → flat_map (λ row. sep ++ row) (map (λ row. row.items) rows) ≡ flat_map (λ row. sep ++ row.items) rows
items_flat sep [] = refl
items_flat sep (row ∷ rows) = ap (λ (l : List ℕ). (sep ++ row.items) ++ l) (items_flat sep rows)

pub joined_items : (sep : List ℕ) (rows : List (Vec ℕ)) → join_by (λ row. row) sep (map (λ row. row.items) rows) ≡ join_by (λ row. row.items) sep rows
joined_items sep [] = refl
joined_items sep (row ∷ rows) = ap (λ (l : List ℕ). row.items ++ l) (items_flat sep rows)
