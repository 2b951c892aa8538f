-- Pages that grow.
use Rattle.std.proofs.Common.{◌≡◌, ◌⊎◌, inl, inr, ℕ, Bool, true, false, ◌+◌, ◌*◌, ◌<◌, ◌≤◌, min, List, [], ◌∷◌, ◌++◌, length, take, drop, refl, sym, ap, subst, ◌∙◌, arith, append-nil, length-append, length-drop, length-take}
use Rattle.std.specs.Prelude.{nat_lt}
use Rattle.std.proofs.lemmas.Bool.{ltb-true, ltb-false}
use Rattle.std.proofs.lemmas.List.{take-append-le, take-append-drop, drop-append-le}
use Rattle.std.proofs.Math.ListN.{drop_of_length-le}
use Rattle.archive_search.specs.Pages.{page_of}

lt_or_le : (a b : ℕ) → (a < b) ⊎ (b ≤ a)
lt_or_le a b = elim (nat_lt a b) as (λ v. nat_lt a b ≡ v → (a < b) ⊎ (b ≤ a)) [ true ↦ λ is. inl (ltb-true a b is) | false ↦ λ is. inr (ltb-false a b is) ] refl

take_all : (n : ℕ) (numbers : List ℕ) → length numbers ≤ n → take n numbers ≡ numbers
take_all n numbers fits = sym (append-nil (take n numbers)) ∙ (ap (λ (l : List ℕ). take n numbers ++ l) (sym (drop_of_length-le numbers fits)) ∙ take-append-drop n numbers)

-- a number whose place is on the page
pub on_page : (page n : ℕ) (numbers : List ℕ) → 100 * page ≤ length numbers → length (page_of page numbers) < 100 → page_of page (numbers ++ n ∷ []) ≡ page_of page numbers ++ n ∷ []
on_page page n numbers reached room =
    let few : length (drop (100 * page) numbers) < 100 = omega (arith, length-take 100 (drop (100 * page) numbers)) in
    ap (take 100) (drop-append-le (100 * page) numbers (n ∷ []) reached)
    ∙ take_all 100 (drop (100 * page) numbers ++ n ∷ []) (omega (arith, length-append (drop (100 * page) numbers) (n ∷ [])))
    ∙ ap (λ (l : List ℕ). l ++ n ∷ []) (sym (take_all 100 (drop (100 * page) numbers) (omega arith)))

-- one before the page
pub before_page : (page n : ℕ) (numbers : List ℕ) → length numbers < 100 * page → page_of page (numbers ++ n ∷ []) ≡ page_of page numbers
before_page page n numbers below =
    ap (take 100) (drop_of_length-le (numbers ++ n ∷ []) (omega (arith, length-append numbers (n ∷ []))) ∙ sym (drop_of_length-le numbers (omega arith)))

-- and one behind it
pub behind_page : (page n : ℕ) (numbers : List ℕ) → 100 * page ≤ length numbers → 100 ≤ length (page_of page numbers) → page_of page (numbers ++ n ∷ []) ≡ page_of page numbers
behind_page page n numbers reached full =
    ap (take 100) (drop-append-le (100 * page) numbers (n ∷ []) reached)
    ∙ take-append-le 100 (drop (100 * page) numbers) (n ∷ []) (omega (arith, length-take 100 (drop (100 * page) numbers)))

-- a page with one number more
pub more_on_page : (page n total : ℕ) (numbers rows : List ℕ) → total ≡ length numbers → rows ≡ page_of page numbers → 100 * page ≤ total → length rows < 100 → rows ++ n ∷ [] ≡ page_of page (numbers ++ n ∷ [])
more_on_page page n total numbers rows total_is rows_are reached room =
    ap (λ (l : List ℕ). l ++ n ∷ []) rows_are ∙ sym (on_page page n numbers (omega (arith, total_is)) (omega (arith, room, ap length rows_are)))

pub none_on_page : (page n total : ℕ) (numbers rows : List ℕ) → total ≡ length numbers → rows ≡ page_of page numbers → (total < 100 * page) ⊎ (100 ≤ length rows) → rows ≡ page_of page (numbers ++ n ∷ [])
none_on_page page n total numbers rows total_is rows_are (inl below) = rows_are ∙ sym (before_page page n numbers (omega (arith, total_is, below)))
none_on_page page n total numbers rows total_is rows_are (inr full) =
    elim (lt_or_le (length numbers) (100 * page)) [
      | inl below ↦ rows_are ∙ sym (before_page page n numbers below)
      | inr reached ↦ rows_are ∙ sym (behind_page page n numbers reached (omega (arith, full, ap length rows_are)))
    ]
