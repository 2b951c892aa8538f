-- Lists of which one member is changed, or each.
use Rattle.std.proofs.Common.{◌≡◌, ℕ, zero, suc, ◌==◌, Bool, true, false, cond, ◌||◌, List, [], ◌∷◌, ◌++◌, length, map, set, get_or, ◌<◌, ◌≤◌, arith, Some, None, refl, ap}
use Rattle.std.proofs.lemmas.Bool.Decides.{nat_tests}
use Rattle.std.specs.List.{slice_get, list_any}
use Rattle.std.specs.Option.{option_map}
use Rattle.desk_records.specs.Slots.{changed_at}

-- ---- one is written

pub set_changed : {A : Type 0} (xs : List A) (k : ℕ) (x : A) (change : A → A) → k < length xs → ((d : A) → x ≡ get_or xs k d) → set xs k (change x) ≡ changed_at k change xs
set_changed [] k x change lt is = absurd (omega arith)
set_changed (y ∷ xs) zero x change lt is = let e : x ≡ y = is x in rw e refl
set_changed (y ∷ xs) (suc k) x change lt is = rw (set_changed xs k x change (omega arith) is) refl

pub past_changed : {A : Type 0} (xs : List A) (k : ℕ) (change : A → A) → length xs ≤ k → xs ≡ changed_at k change xs
past_changed [] k change past = refl
past_changed (y ∷ xs) zero change past = absurd (omega arith)
past_changed (y ∷ xs) (suc k) change past = ap (λ zs. y ∷ zs) (past_changed xs k change (omega arith))

pub changed_length : {A : Type 0} (k : ℕ) (change : A → A) (xs : List A) → length (changed_at k change xs) ≡ length xs
changed_length k change [] = refl
changed_length zero change (x ∷ xs) = refl
changed_length (suc k) change (x ∷ xs) = ap suc (changed_length k change xs)

-- ---- what stands at a place

pub same_next : (k j : ℕ) → (suc k == suc j) ≡ (k == j)
same_next k j = by (k == j) refl
  where
    by : (b : Bool) → (k == j) ≡ b → (suc k == suc j) ≡ b
    by true is = grind (arith, nat_tests, is)
    by false is = grind (arith, nat_tests, is)

pub no_next : (j : ℕ) → (0 == suc j) ≡ false
no_next j = grind (arith, nat_tests)

pub next_no : (j : ℕ) → (suc j == 0) ≡ false
next_no j = grind (arith, nat_tests)

pub get_changed : {A : Type 0} (k : ℕ) (change : A → A) (xs : List A) (j : ℕ) → slice_get (changed_at k change xs) j ≡ cond (k == j) (option_map change (slice_get xs j)) (slice_get xs j)
get_changed k change [] j = by (k == j)
  where
    by : (b : Bool) → slice_get (changed_at k change []) j ≡ cond b (option_map change (slice_get [] j)) (slice_get [] j)
    by true = refl
    by false = refl
get_changed zero change (x ∷ xs) zero = refl
get_changed zero change (x ∷ xs) (suc j) = rw (no_next j) refl
get_changed (suc k) change (x ∷ xs) zero = rw (next_no k) refl
get_changed (suc k) change (x ∷ xs) (suc j) = rw (same_next k j) (get_changed k change xs j)

pub get_map : {A B : Type 0} (f : A → B) (xs : List A) (k : ℕ) → slice_get (map f xs) k ≡ option_map f (slice_get xs k)
get_map f [] k = refl
get_map f (x ∷ xs) zero = refl
get_map f (x ∷ xs) (suc k) = get_map f xs k

pub map_length : {A B : Type 0} (f : A → B) (xs : List A) → length (map f xs) ≡ length xs
map_length f [] = refl
map_length f (x ∷ xs) = ap suc (map_length f xs)

pub get_past : {A : Type 0} (xs : List A) (k : ℕ) → length xs ≤ k → slice_get xs k ≡ None
get_past [] k past = refl
get_past (x ∷ xs) zero past = absurd (omega arith)
get_past (x ∷ xs) (suc k) past = get_past xs k (omega arith)

pub get_there : {A : Type 0} (xs : List A) (k : ℕ) → k < length xs → (x : A) × (slice_get xs k ≡ Some x)
get_there [] k lt = absurd (omega arith)
get_there (x ∷ xs) zero lt = (x, refl)
get_there (x ∷ xs) (suc k) lt = get_there xs k (omega arith)

-- one more behind the others
pub get_pushed : {A : Type 0} (xs : List A) (x : A) (k : ℕ) → slice_get (xs ++ x ∷ []) k ≡ cond (length xs == k) (Some x) (slice_get xs k)
get_pushed [] x zero = refl
get_pushed [] x (suc k) = rw (no_next k) refl
get_pushed (y ∷ xs) x zero = rw (next_no (length xs)) refl
get_pushed (y ∷ xs) x (suc k) = rw (same_next (length xs) k) (get_pushed xs x k)

pub any_pushed : {A : Type 0} (t : A → Bool) (xs : List A) (x : A) → list_any t (xs ++ x ∷ []) ≡ (list_any t xs || t x)
any_pushed t [] x = elim (t x) as (λ b. (b || false) ≡ (false || b)) [ true ↦ refl | false ↦ refl ]
any_pushed t (y ∷ xs) x = elim (t y) as (λ b. (b || list_any t (xs ++ x ∷ [])) ≡ ((b || list_any t xs) || t x)) [ true ↦ refl | false ↦ any_pushed t xs x ]
