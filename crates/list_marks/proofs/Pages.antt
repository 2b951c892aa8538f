-- Names that are counted a page after the other.
use Rattle.std.proofs.Common.{◌≡◌, ℕ, zero, suc, ◌+◌, ◌-◌, ◌<◌, ◌≤◌, List, [], ◌∷◌, ◌++◌, length, take, drop, slice_get, Some, None, refl, sym, ap, subst, ◌∙◌, append_assoc, arith}
use Rattle.std.proofs.lemmas.List.{take-append-drop, length-append, length-take}
use Rattle.std.specs.List.{filter}
use Rattle.news_types.specs.Names.{Bytes}
use Rattle.news_types.proofs.Members.{none_some, some_is}
use Rattle.desk_views.specs.Things.{is_behind}
use Rattle.list_marks.proofs.Order.{Rise, all_behind, those_behind}

-- so many names are the first of all, and the page is the next hundred
pub record IsPage (names : List Bytes) (count : ℕ) (page : List Bytes) : Type 0 where
  pub front : List Bytes
  pub rest : List Bytes
  pub are : names ≡ front ++ rest
  pub counted : count ≡ length front
  pub page_is : page ≡ take 100 rest

pub first_page : (names page : List Bytes) → page ≡ take 100 (filter (is_behind None) names) → IsPage names 0 page
first_page names page is = record { front = []; rest = names; are = refl; counted = refl; page_is = is ∙ ap (take 100) (all_behind names) }

-- ---- the last name of a page

split_last : (xs : List Bytes) (n : ℕ) (s : Bytes) → n + 1 ≡ length xs → slice_get xs n ≡ Some s → (front : List Bytes) × (xs ≡ front ++ s ∷ [])
split_last [] n s long is = absurd (none_some s is)
split_last (x ∷ []) zero s long is = ([], ap (λ (y : Bytes). y ∷ []) (some_is x s is))
split_last (x ∷ []) (suc n) s long is = absurd (none_some s is)
split_last (x ∷ y ∷ xs) zero s long is = absurd (omega (arith, long))
split_last (x ∷ y ∷ xs) (suc n) s long is =
    let rest = split_last (y ∷ xs) n s (omega (arith, long)) is in
    (x ∷ rest.0, ap (λ (l : List Bytes). x ∷ l) rest.1)

get_within : (xs : List Bytes) (n : ℕ) (s : Bytes) → slice_get xs n ≡ Some s → n < length xs
get_within [] n s is = absurd (none_some s is)
get_within (x ∷ xs) zero s is = omega arith
get_within (x ∷ xs) (suc n) s is = omega (arith, get_within xs n s is)

module _ (names : List Bytes) (count : ℕ) (page : List Bytes) (s : Bytes) (is : IsPage names count page) (last : slice_get page (length page - 1) ≡ Some s) where
  pub some_names : 0 < length page
  some_names = omega (arith, get_within page (length page - 1) s last)

  ended : (front : List Bytes) × (page ≡ front ++ s ∷ [])
  ended = split_last page (length page - 1) s (omega (arith, some_names)) last

  both : is.rest ≡ page ++ drop 100 is.rest
  both = sym (take-append-drop 100 is.rest) ∙ ap (λ (l : List Bytes). l ++ drop 100 is.rest) (sym is.page_is)

  so_far : names ≡ (is.front ++ page) ++ drop 100 is.rest
  so_far = is.are ∙ ap (λ (l : List Bytes). is.front ++ l) both ∙ sym (append_assoc is.front page (drop 100 is.rest))

  parted : names ≡ (is.front ++ ended.0) ++ s ∷ drop 100 is.rest
  parted =
      so_far ∙ ap (λ (l : List Bytes). (is.front ++ l) ++ drop 100 is.rest) ended.1
      ∙ ap (λ (l : List Bytes). l ++ drop 100 is.rest) (sym (append_assoc is.front ended.0 (s ∷ [])))
      ∙ append_assoc (is.front ++ ended.0) (s ∷ []) (drop 100 is.rest)

  pub within : count + length page ≤ length names
  within = omega (arith, ap length so_far, length-append (is.front ++ page) (drop 100 is.rest), length-append is.front page, is.counted)

  pub next_page : (page' : List Bytes) → Rise names → page' ≡ take 100 (filter (is_behind (Some s)) names) → IsPage names (count + length page) page'
  next_page page' up next = record {
    front = is.front ++ page;
    rest = drop 100 is.rest;
    are = so_far;
    counted = omega (arith, length-append is.front page, is.counted);
    page_is = next ∙ ap (take 100) (ap (filter (is_behind (Some s))) parted ∙ those_behind (is.front ++ ended.0) s (drop 100 is.rest) (subst Rise parted up));
  }

-- ---- no page more

no_name : (xs : List Bytes) → slice_get xs (length xs - 1) ≡ None → xs ≡ []
no_name [] none = refl
no_name (x ∷ xs) none = absurd (there (x ∷ xs) (length (x ∷ xs) - 1) (omega arith) none)
  where
    there : (ys : List Bytes) (n : ℕ) → n < length ys → slice_get ys n ≡ None → ⊥
    there [] n lt is = omega (arith, lt)
    there (y ∷ ys) zero lt is = none_some y (sym is)
    there (y ∷ ys) (suc n) lt is = there ys n (omega (arith, lt)) is

pub all_counted : (names : List Bytes) (count : ℕ) (page : List Bytes) → IsPage names count page → slice_get page (length page - 1) ≡ None → count ≡ length names
all_counted names count page is none =
    let empty : length (take 100 is.rest) ≡ 0 = ap length (sym is.page_is ∙ no_name page none) in
    omega (arith, empty, length-take 100 is.rest, ap length is.are, length-append is.front is.rest, is.counted)
