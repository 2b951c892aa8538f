-- Rows of items, of which one is changed or asked for.
use Rattle.std.proofs.Common.{◌≡◌, ℕ, zero, suc, ◌-◌, ◌==◌, true, false, cond, List, [], ◌∷◌, ◌++◌, length, map, set, get_or, ◌<◌, ◌≤◌, arith, Option, Some, None, refl, sym, ap, ◌∙◌}
use Rattle.std.proofs.lemmas.Bool.Decides.{nat_tests}
use Rattle.std.specs.List.{slice_get}
use Rattle.std.specs.Option.{option_map}
use Rattle.news_types.specs.Items as items
use Rattle.news_types.specs.Items.{Item}
use Rattle.item_table.specs.declared.row.Row.{Row}
use Rattle.item_table.specs.Rows.{row_at, changed_at, changed, row_of}

pub set_changed : (xs : List Row) (k : ℕ) (x : Row) (change : Row → Row) → k < length xs → ((d : Row) → x ≡ get_or xs k d) → set xs k (change x) ≡ changed_at k change xs
set_changed [] k x change lt is = absurd (omega arith)
set_changed (y ∷ xs) zero x change lt is = let e : x ≡ y = is x in rw e refl
set_changed (y ∷ xs) (suc k) x change lt is = rw (set_changed xs k x change (omega arith) is) refl

pub past_changed : (xs : List Row) (k : ℕ) (change : Row → Row) → length xs ≤ k → xs ≡ changed_at k change xs
past_changed [] k change past = refl
past_changed (y ∷ xs) zero change past = absurd (omega arith)
past_changed (y ∷ xs) (suc k) change past = ap (λ zs. y ∷ zs) (past_changed xs k change (omega arith))

-- number 0 is nobody's
pub numbered_changed : (i : ℕ) (change : Row → Row) (xs ys : List Row) → (i ≡ 0 → ⊥) → ys ≡ changed_at (i - 1) change xs → ys ≡ changed i change xs
numbered_changed i change xs ys some is = let no : (i == 0) ≡ false = grind (arith, nat_tests) in rw no is

-- ---- the row of an item

get_map : (xs : List Item) (k : ℕ) → slice_get (map row_of xs) k ≡ option_map row_of (slice_get xs k)
get_map [] k = refl
get_map (x ∷ xs) zero = refl
get_map (x ∷ xs) (suc k) = get_map xs k

pub row_found : (xs : List Item) (i : ℕ) → row_at (map row_of xs) i ≡ option_map row_of (items.item_numbered xs i)
row_found xs i = elim (i == 0) as (λ b. cond b None (slice_get (map row_of xs) (i - 1)) ≡ option_map row_of (cond b None (slice_get xs (i - 1)))) [ true ↦ refl | false ↦ get_map xs (i - 1) ]

-- ---- an item that is changed

module _ (set_row : Row → Row) (change : Item → Item) where
  rows_set_at : (k : ℕ) (xs : List Item) → ((it : Item) → slice_get xs k ≡ Some it → row_of (change it) ≡ set_row (row_of it)) → changed_at k set_row (map row_of xs) ≡ map row_of (items.changed_at k change xs)
  rows_set_at k [] alike = refl
  rows_set_at zero (x ∷ xs) alike = ap (λ r. r ∷ map row_of xs) (sym (alike x refl))
  rows_set_at (suc k) (x ∷ xs) alike = ap (λ rs. row_of x ∷ rs) (rows_set_at k xs alike)

  pub rows_set : (i : ℕ) (xs : List Item) → ((it : Item) → items.item_numbered xs i ≡ Some it → row_of (change it) ≡ set_row (row_of it)) → changed i set_row (map row_of xs) ≡ map row_of (items.changed i change xs)
  rows_set zero xs alike = refl
  rows_set (suc i) xs alike =
      let no : (suc i == 0) ≡ false = grind (arith, nat_tests) in
      let less : suc i - 1 ≡ i = omega arith in
      rw (no, less) (rows_set_at i xs (λ it is. alike it (rw (no, less) is)))
