-- What is told of publications by their numbers, behind changes.
use Rattle.std.proofs.Common.{◌≡◌, ℕ, suc, ◌-◌, ◌==◌, Bool, true, false, cond, ◌||◌, List, [], ◌∷◌, ◌++◌, length, map, arith, Option, Some, None, refl, ap, ◌∙◌}
use Rattle.std.proofs.lemmas.Bool.Decides.{nat_tests}
use Rattle.std.specs.Prelude.{nat_lt}
use Rattle.std.specs.List.{slice_get}
use Rattle.std.specs.Option.{option_map}
use Rattle.desk_records.specs.declared.slots.Slot.{Slot}
use Rattle.desk_records.specs.declared.slots.Slot.TheVariants.{NotDue, Due, TakenBack}
use Rattle.desk_records.specs.declared.rows.Row.{Row}
use Rattle.desk_records.specs.Slots.{after_kill, Told, told, killed, told_at}
use Rattle.desk_records.proofs.Lists.{get_pushed}

-- numbers count from 1
less_alike : (number n : ℕ) → (number ≡ 0 → ⊥) → (n == 0) ≡ false → (number - 1 == n - 1) ≡ (number == n)
less_alike number n some is = by (number == n) refl
  where
    by : (b : Bool) → (number == n) ≡ b → (number - 1 == n - 1) ≡ b
    by true same = grind (arith, nat_tests, same)
    by false other = grind (arith, nat_tests, other, is, some)

-- ---- several are changed

kill_again : (m : ℕ) (slot : Slot) → after_kill m (after_kill m slot) ≡ after_kill m slot
kill_again m NotDue = refl
kill_again m (TakenBack release) = refl
kill_again m (Due release) = by (nat_lt m release) refl
  where
    by : (b : Bool) → nat_lt m release ≡ b → after_kill m (cond b (TakenBack release) (Due release)) ≡ cond b (TakenBack release) (Due release)
    by true late = refl
    by false early = rw early refl

kill_all_again : (m : ℕ) (slots : List Slot) → map (after_kill m) (map (after_kill m) slots) ≡ map (after_kill m) slots
kill_all_again m [] = refl
kill_all_again m (slot ∷ slots) = rw (kill_again m slot, kill_all_again m slots) refl

pub killed_again : (m : ℕ) (t : Told) → killed m (killed m t) ≡ killed m t
killed_again m t = ap (λ (slots : List Slot). let u : Told = record { stands = t.stands; slots = slots } in u) (kill_all_again m t.slots)

-- one more of these numbers
pub told_more : (f : Told → Told) → ((t : Told) → f (f t) ≡ f t) → (o now next : Option Told) (a b : Bool)
    → now ≡ cond a (option_map f o) o → next ≡ cond b (option_map f now) now → next ≡ cond (a || b) (option_map f o) o
told_more f again o now next a b is goes = rw (goes, is) (by a b o)
  where
    by : (a b : Bool) (o : Option Told) → cond b (option_map f (cond a (option_map f o) o)) (cond a (option_map f o) o) ≡ cond (a || b) (option_map f o) o
    by true true None = refl
    by true true (Some t) = ap (λ u. Some u) (again t)
    by true false o = refl
    by false true o = refl
    by false false o = refl

-- ---- one more

one_less : (k : ℕ) → k ≡ suc k - 1
one_less k = omega arith

not_zero : (k : ℕ) → suc k ≡ 0 → ⊥
not_zero k is = absurd (omega (arith, is))

pub told_pushed : (rows : List Row) (row : Row) (n : ℕ) → told_at (rows ++ row ∷ []) n ≡ cond (suc (length rows) == n) (Some (told row)) (told_at rows n)
told_pushed rows row n = by (n == 0) refl
  where
    by : (b : Bool) → (n == 0) ≡ b → option_map told (cond b None (slice_get (rows ++ row ∷ []) (n - 1)))
        ≡ cond (suc (length rows) == n) (Some (told row)) (option_map told (cond b None (slice_get rows (n - 1))))
    by true is = let no : (suc (length rows) == n) ≡ false = grind (arith, nat_tests, is) in rw no refl
    by false there =
        let e : (length rows == n - 1) ≡ (suc (length rows) == n) = ap (λ k. k == n - 1) (one_less (length rows)) ∙ less_alike (suc (length rows)) n (not_zero (length rows)) there in
        rw (get_pushed rows row (n - 1), e) (elim (suc (length rows) == n) as (λ b. option_map told (cond b (Some row) (slice_get rows (n - 1))) ≡ cond b (Some (told row)) (option_map told (slice_get rows (n - 1)))) [ true ↦ refl | false ↦ refl ])
