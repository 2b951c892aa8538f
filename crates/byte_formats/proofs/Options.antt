-- The promise of options, lists and flags.
use Rattle.std.proofs.Common.{◌≡◌, ℕ, zero, suc, ◌<◌, ◌≤◌, ◌^◌, List, [], ◌∷◌, length, Option, Some, None, Result, Ok, Err, refl, sym, ap, subst, arith, Bool, true, false}
use Rattle.std.specs.List.{AllByRecursion}
use Rattle.std.specs.Int.{w16}
use Rattle.std.proofs.lemmas.List.Elements.{All-from_recursion, recursion_from_All}
use Rattle.byte_formats.specs.Spelling.{IsOption, IsList}
use Rattle.byte_formats.specs.Format.{Format, ◌>>=◌, chain, ranged, nothing, upto, many}
use Rattle.byte_formats.specs.Fields.{option, option_at, option_by, has, list, list_at, flag, flag_at, is_one}
use Rattle.byte_formats.proofs.Laws.{Lawful, chain_lawful, via}
use Rattle.byte_formats.proofs.Fields.{nothing_lawful, many_lawful, ranged_lawful}
use Rattle.byte_formats.proofs.Numbers.{wide16, upto_lawful}

pub read_again : {A : Type 0} (r : Result (A × List ℕ) ℕ) → r ≡ (r >>= λ x. Ok (x.0, x.1))
read_again (Ok x) = refl
read_again (Err e) = refl

-- ---- options

abbrev ByFlag : {A : Type 0} → (A → Type 0) → ℕ → Option A → Type 0
ByFlag P zero None = Unit {0}
ByFlag P zero (Some x) = ⊥
ByFlag P (suc n) None = ⊥
ByFlag P (suc n) (Some x) = P x

option_back : {A : Type 0} (P : A → Type 0) (o : Option A) → ByFlag P 1 o → (x : A) × P x × (Some x ≡ o)
option_back P None h = absurd h
option_back P (Some x) h = (x, h, refl)

none_back : {A : Type 0} (P : A → Type 0) (o : Option A) → ByFlag P 0 o → (x : ℕ) × (x ≡ 0) × (None ≡ o)
none_back P None h = (0, refl, refl)
none_back P (Some x) h = absurd h

option_by_lawful : {A : Type 0} (F : Format A) (P : A → Type 0) → Lawful F P → (n : ℕ) → (0 ≤ n) × (n ≤ 1) → Lawful (option_by F n) (ByFlag P n)
option_by_lawful {A} F P lf zero h = via {A = ℕ} (nothing 0) (λ x. x ≡ 0) (option_by F 0) (ByFlag P 0) (λ _. None) (nothing_lawful 0) (λ bytes. refl) (λ x e. (tt, refl)) (none_back P)
option_by_lawful {A} F P lf (suc n) h =
    let one : suc n ≡ 1 = omega (arith, h.1) in
    subst (λ k. Lawful (option_by F k) (ByFlag P k)) (sym one) (via F P (option_by F 1) (ByFlag P 1) (λ x. Some x) lf (λ bytes. refl) (λ x p. (p, refl)) (option_back P))

has_flag : {A : Type 0} (P : A → Type 0) (n : ℕ) (o : Option A) → n ≤ 1 → ByFlag P n o → has o ≡ n
has_flag P zero None h q = refl
has_flag P zero (Some x) h q = absurd q
has_flag P (suc n) None h q = absurd q
has_flag P (suc n) (Some x) h q = omega arith

option_to : {A : Type 0} (F : Format A) (P : A → Type 0) (o : Option A) → ((0 ≤ has o) × (has o ≤ 1)) × ByFlag P (has o) o → IsOption P o × ((option F).spell o ≡ (chain (ranged 0 1) (option_by F) has).spell o)
option_to F P None h = (tt, refl)
option_to F P (Some x) h = (h.1, refl)

option_from : {A : Type 0} (P : A → Type 0) (o : Option A) → IsOption P o → ((0 ≤ has o) × (has o ≤ 1)) × ByFlag P (has o) o
option_from P None h = ((omega arith, omega arith), tt)
option_from P (Some x) h = ((omega arith, omega arith), h)

pub option_lawful : {A : Type 0} (F : Format A) (P : A → Type 0) → Lawful F P → Lawful (option F) (IsOption P)
unfolding option_at
option_lawful F P lf =
    via (chain (ranged 0 1) (option_by F) has) (λ o. ((0 ≤ has o) × (has o ≤ 1)) × ByFlag P (has o) o) (option F) (IsOption P) (λ o. o)
    (chain_lawful (ranged 0 1) (λ n. (0 ≤ n) × (n ≤ 1)) (option_by F) (ByFlag P) has (ranged_lawful 0 1 (omega arith)) (option_by_lawful F P lf) (λ n o h q. has_flag P n o h.1 q))
    (λ bytes. read_again (option_at F bytes)) (option_to F P) (λ o h. (o, option_from P o h, refl))

-- ---- lists

pub list_lawful : {A : Type 0} (limit : ℕ) (F : Format A) (P : A → Type 0) → limit < 2 ^ 16 → Lawful F P → Lawful (list limit F) (IsList limit P)
unfolding list_at
list_lawful {A} limit F P fits lf =
    let Q : ℕ → List A → Type 0 = λ n xs. (length xs ≡ n) × AllByRecursion P xs in
    via (chain (upto w16 limit) (many F) length) (λ xs. (length xs ≤ limit) × Q (length xs) xs) (list limit F) (IsList limit P) (λ xs. xs)
    (chain_lawful (upto w16 limit) (λ n. n ≤ limit) (many F) Q length (upto_lawful w16 (2 ^ 16) limit wide16 fits) (λ n h. many_lawful F P n lf) (λ n xs h q. q.0))
    (λ bytes. read_again (list_at limit F bytes)) (λ xs h. ((h.0, All-from_recursion P xs h.1.1), refl)) (λ xs h. (xs, (h.0, (refl, recursion_from_All P xs h.1)), refl))

-- ---- flags

flag_to : (b : ℕ) → (0 ≤ b) × (b ≤ 1) → Unit {0} × (flag.spell (is_one b) ≡ b ∷ [])
flag_to zero h = (tt, refl)
flag_to (suc n) h = let one : suc n ≡ 1 = omega (arith, h.1) in (tt, ap (λ (k : ℕ). k ∷ []) (sym one))

flag_back : (f : Bool) → Unit {0} → (b : ℕ) × ((0 ≤ b) × (b ≤ 1)) × (is_one b ≡ f)
flag_back false u = (0, (omega arith, omega arith), refl)
flag_back true u = (1, (omega arith, omega arith), refl)

pub flag_lawful : Lawful flag (λ _. Unit {0})
unfolding flag_at
flag_lawful = via (ranged 0 1) (λ b. (0 ≤ b) × (b ≤ 1)) flag (λ _. Unit {0}) is_one (ranged_lawful 0 1 (omega arith)) (λ bytes. refl) flag_to flag_back
