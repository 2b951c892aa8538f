-- The publications of an item, by their numbers.
use Rattle.std.proofs.Common.{◌≡◌, ◌==◌, ◌&&◌, ℕ, zero, suc, ◌<◌, ◌≤◌, Bool, true, false, List, [], ◌∷◌, ◌++◌, length, map, take, drop, reverse, Some, refl, sym, ap, subst, ◌∙◌, arith, append-nil}
use Rattle.std.specs.Prelude.{nat_le, nat_lt, if◌then◌else◌, slice_index_or}
use Rattle.std.specs.List.{filter, AllWithin}
use Rattle.std.specs.List.Sorted.{IsNonDecreasing}
use Rattle.std.proofs.lemmas.Bool.Decides.{nat_tests}
use Rattle.std.proofs.lemmas.List.{map-append, reverse-append}
use Rattle.std.proofs.lemmas.List.Elements.{filter-append}
use Rattle.news_types.specs.History.{History}
use Rattle.news_types.specs.Members.{Each}
use Rattle.news_types.specs.Due.{Pub}
use Rattle.news_types.specs.Publications.{pubs}
use Rattle.news_types.proofs.Members.{each_map, each_append, each_filter}
use Rattle.news_types.proofs.Numbering.{CountsDown, pubs_count_down}
use Rattle.publications.specs.Numbers.{numbers_of}
use Rattle.feed_reasons.specs.Courses.{numbered}
use Rattle.desk_views.specs.Publications.{is_later_of, publications_of}
use Rattle.desk_questions.specs.Publications.{publication_row, row_by_number, row_if_there}

-- ---- tests

pub eq_self : (n : ℕ) → (n == n) ≡ true
eq_self n = grind (arith, nat_tests)

pub eq_is : (m n : ℕ) → (m == n) ≡ true → m ≡ n
eq_is m n is = grind (arith, nat_tests)

pub eq_other : (m n : ℕ) → n < m → (m == n) ≡ false
eq_other m n lt = grind (arith, nat_tests)

above : (x after : ℕ) → nat_le x after ≡ false → nat_lt after x ≡ true
above x after is = grind (arith, nat_tests)

not_above : (x after : ℕ) → nat_le x after ≡ true → nat_lt after x ≡ false
not_above x after is = grind (arith, nat_tests)

-- ---- each of a list

pub each_both : {A : Type 0} (P Q R : A → Type 0) (xs : List A) → ((x : A) → P x → Q x → R x) → Each P xs → Each Q xs → Each R xs
each_both P Q R [] both all more = tt
each_both P Q R (x ∷ xs) both all more = (both x all.0 more.0, each_both P Q R xs both all.1 more.1)

pub each_front : {A : Type 0} (P : A → Type 0) (xs ys : List A) → Each P (xs ++ ys) → Each P xs
each_front P [] ys all = tt
each_front P (x ∷ xs) ys all = (all.0, each_front P xs ys all.1)

each_reverse : {A : Type 0} (P : A → Type 0) (xs : List A) → Each P xs → Each P (reverse xs)
each_reverse P [] all = tt
each_reverse P (x ∷ xs) all = subst (Each P) (sym (reverse-append (x ∷ []) xs)) (each_append P (reverse xs) (x ∷ []) (each_reverse P xs all.1) (all.0, tt))

each_take : {A : Type 0} (P : A → Type 0) (n : ℕ) (xs : List A) → Each P xs → Each P (take n xs)
each_take P zero xs all = tt
each_take P (suc n) [] all = tt
each_take P (suc n) (x ∷ xs) all = (all.0, each_take P n xs all.1)

each_at : (P : ℕ → Type 0) (xs : List ℕ) (j d : ℕ) → Each P xs → j < length xs → P (slice_index_or xs j d)
each_at P [] j d all lt = absurd (omega arith)
each_at P (x ∷ xs) zero d all lt = all.0
each_at P (x ∷ xs) (suc j) d all lt = each_at P xs j d all.1 (omega arith)

-- what stands at an index is there, whatever else would be
pub at_any : (xs : List ℕ) (j d e : ℕ) → j < length xs → slice_index_or xs j d ≡ slice_index_or xs j e
at_any [] j d e lt = absurd (omega arith)
at_any (x ∷ xs) zero d e lt = refl
at_any (x ∷ xs) (suc j) d e lt = at_any xs j d e (omega arith)

-- ---- the numbers rise

abbrev Rises : List ℕ → Type 0
Rises [] = Unit {0}
Rises (x ∷ xs) = Each (λ y. x ≤ y) xs × Rises xs

rises_more : (xs : List ℕ) (x : ℕ) → Rises xs → Each (λ y. y ≤ x) xs → Rises (xs ++ x ∷ [])
rises_more [] x rises low = (tt, tt)
rises_more (y ∷ ys) x rises low = (each_append (λ z. y ≤ z) ys (x ∷ []) rises.0 (low.0, tt), rises_more ys x rises.1 low.1)

by_index : (xs : List ℕ) → Rises xs → IsNonDecreasing xs
by_index [] rises i j d le lt = absurd (omega arith)
by_index (x ∷ xs) rises zero zero d le lt = omega arith
by_index (x ∷ xs) rises zero (suc j) d le lt = each_at (λ y. x ≤ y) xs j d rises.0 (omega arith)
by_index (x ∷ xs) rises (suc i) zero d le lt = absurd (omega arith)
by_index (x ∷ xs) rises (suc i) (suc j) d le lt = by_index xs rises.1 i j d (omega arith) (omega arith)

numbers_to : (i : ℕ) (ps : List Pub) → CountsDown ps → Each (λ n. n ≤ length ps) (numbers_of i ps)
numbers_to i [] down = tt
numbers_to i (p ∷ ps) down =
    let more : Each (λ n. n ≤ suc (length ps)) (numbers_of i ps) = each_map (λ n. n ≤ length ps) (λ n. n ≤ suc (length ps)) (numbers_of i ps) (λ n le. omega arith) (numbers_to i ps down.1) in
    let here : p.number ≤ suc (length ps) = omega (arith, down.0) in
    elim (p.item == i) as (λ b. Each (λ n. n ≤ suc (length ps)) (if b then numbers_of i ps ++ p.number ∷ [] else numbers_of i ps)) [
      | true ↦ each_append (λ n. n ≤ suc (length ps)) (numbers_of i ps) (p.number ∷ []) more (here, tt)
      | false ↦ more
    ]

rise : (i : ℕ) (ps : List Pub) → CountsDown ps → Rises (numbers_of i ps)
rise i [] down = tt
rise i (p ∷ ps) down =
    let low : Each (λ n. n ≤ p.number) (numbers_of i ps) = each_map (λ n. n ≤ length ps) (λ n. n ≤ p.number) (numbers_of i ps) (λ n le. omega (arith, down.0)) (numbers_to i ps down.1) in
    elim (p.item == i) as (λ b. Rises (if b then numbers_of i ps ++ p.number ∷ [] else numbers_of i ps)) [
      | true ↦ rises_more (numbers_of i ps) p.number (rise i ps down.1) low
      | false ↦ rise i ps down.1
    ]

pub numbers_rise : (h : History) (i : ℕ) → IsNonDecreasing (numbers_of i (pubs h))
numbers_rise h i = by_index (numbers_of i (pubs h)) (rise i (pubs h) (pubs_count_down h))

-- those above a number begin where the others end
pub above_point : (after : ℕ) (xs : List ℕ) (k : ℕ) → AllWithin (λ y. nat_le y after ≡ true) xs 0 k → AllWithin (λ y. nat_le y after ≡ false) xs k (length xs) → filter (nat_lt after) xs ≡ drop k xs
above_point after [] zero low high = refl
above_point after [] (suc k) low high = refl
above_point after (x ∷ xs) zero low high =
    let passes : nat_lt after x ≡ true = above x after (high 0 x (omega arith) (omega arith)) in
    let rest : filter (nat_lt after) xs ≡ xs = above_point after xs zero (λ j d le lt. absurd (omega arith)) (λ j d le lt. high (suc j) d (omega arith) (omega arith)) in
    ap (λ (b : Bool). if b then x ∷ filter (nat_lt after) xs else filter (nat_lt after) xs) passes ∙ ap (λ (l : List ℕ). x ∷ l) rest
above_point after (x ∷ xs) (suc k) low high =
    let fails : nat_lt after x ≡ false = not_above x after (low 0 x (omega arith) (omega arith)) in
    ap (λ (b : Bool). if b then x ∷ filter (nat_lt after) xs else filter (nat_lt after) xs) fails
    ∙ above_point after xs k (λ j d le lt. low (suc j) d (omega arith) (omega arith)) (λ j d le lt. high (suc j) d (omega arith) (omega arith))

-- ---- a page of them

abbrev number_in : Pub → ℕ
number_in p = p.number

abbrev is_of_item : ℕ → Pub → Bool
is_of_item i p = p.item == i

numbers_are : (i : ℕ) (ps : List Pub) → numbers_of i ps ≡ map number_in (filter (is_of_item i) (reverse ps))
numbers_are i [] = refl
numbers_are i (p ∷ ps) =
    let rest = numbers_are i ps in
    let front = filter (is_of_item i) (reverse ps) in
    let last : (if p.item == i then numbers_of i ps ++ p.number ∷ [] else numbers_of i ps) ≡ map number_in (front ++ (if p.item == i then p ∷ [] else [])) =
    elim (p.item == i) as (λ b. (if b then numbers_of i ps ++ p.number ∷ [] else numbers_of i ps) ≡ map number_in (front ++ (if b then p ∷ [] else []))) [
      | true ↦ ap (λ (l : List ℕ). l ++ p.number ∷ []) rest ∙ sym (map-append number_in front (p ∷ []))
      | false ↦ rest ∙ ap (map number_in) (sym (append-nil front))
    ] in
    last
    ∙ sym (ap (λ (l : List Pub). map number_in (filter (is_of_item i) l)) (reverse-append (p ∷ []) ps) ∙ ap (map number_in) (filter-append (is_of_item i) (reverse ps) (p ∷ [])))

above_numbers : (after : ℕ) (ps : List Pub) → filter (nat_lt after) (map number_in ps) ≡ map number_in (filter (λ (p : Pub). nat_lt after p.number) ps)
above_numbers after [] = refl
above_numbers after (p ∷ ps) =
    let rest = above_numbers after ps in
    elim (nat_lt after p.number) as (λ b. (if b then p.number ∷ filter (nat_lt after) (map number_in ps) else filter (nat_lt after) (map number_in ps))
    ≡ map number_in (if b then p ∷ filter (λ (p : Pub). nat_lt after p.number) ps else filter (λ (p : Pub). nat_lt after p.number) ps)) [
      | true ↦ ap (λ (l : List ℕ). p.number ∷ l) rest
      | false ↦ rest
    ]

both_tests : (t u : Pub → Bool) (ps : List Pub) → filter u (filter t ps) ≡ filter (λ p. t p && u p) ps
both_tests t u [] = refl
both_tests t u (p ∷ ps) =
    let rest = both_tests t u ps in
    elim (t p) as (λ b. filter u (if b then p ∷ filter t ps else filter t ps) ≡ (if b && u p then p ∷ filter (λ p. t p && u p) ps else filter (λ p. t p && u p) ps)) [
      | true ↦ elim (u p) as (λ c. (if c then p ∷ filter u (filter t ps) else filter u (filter t ps)) ≡ (if c then p ∷ filter (λ p. t p && u p) ps else filter (λ p. t p && u p) ps)) [
        | true ↦ ap (λ (l : List Pub). p ∷ l) rest
        | false ↦ rest
      ]
      | false ↦ rest
    ]

take_map : (n : ℕ) (ps : List Pub) → take n (map number_in ps) ≡ map number_in (take n ps)
take_map zero ps = refl
take_map (suc n) [] = refl
take_map (suc n) (p ∷ ps) = ap (λ (l : List ℕ). p.number ∷ l) (take_map n ps)

page_numbers : (h : History) (i after : ℕ) → take 100 (filter (nat_lt after) (numbers_of i (pubs h))) ≡ map number_in (publications_of h i after)
page_numbers h i after =
    ap (λ (l : List ℕ). take 100 (filter (nat_lt after) l)) (numbers_are i (pubs h))
    ∙ ap (take 100) (above_numbers after (filter (is_of_item i) (reverse (pubs h))))
    ∙ ap (λ (l : List Pub). take 100 (map number_in l)) (both_tests (is_of_item i) (λ (p : Pub). nat_lt after p.number) (reverse (pubs h)))
    ∙ take_map 100 (filter (is_later_of i after) (reverse (pubs h)))

-- ---- by their numbers

-- it is found by its number
abbrev pub IsFound : List Pub → Pub → Type 0
IsFound ps p = numbered p.number ps ≡ Some p

pub numbers_low : (ps : List Pub) → CountsDown ps → Each (λ (p : Pub). p.number ≤ length ps) ps
numbers_low [] down = tt
numbers_low (p ∷ ps) down =
    (omega (arith, down.0), each_map (λ (q : Pub). q.number ≤ length ps) (λ (q : Pub). q.number ≤ suc (length ps)) ps (λ q le. omega arith) (numbers_low ps down.1))

pub all_found : (ps : List Pub) → CountsDown ps → Each (IsFound ps) ps
all_found [] down = tt
all_found (p ∷ ps) down = (
  ap (λ (b : Bool). if b then Some p else numbered p.number ps) (eq_self p.number),
  each_both (λ (q : Pub). q.number ≤ length ps) (IsFound ps) (IsFound (p ∷ ps)) ps
      (λ q le is. ap (λ (b : Bool). if b then Some p else numbered q.number ps) (eq_other p.number q.number (omega (arith, down.0))) ∙ is)
      (numbers_low ps down.1) (all_found ps down.1),
)

rows_are : (h : History) (ps : List Pub) → Each (IsFound (pubs h)) ps → map (row_by_number h) (map number_in ps) ≡ map (publication_row h) ps
rows_are h [] all = refl
rows_are h (p ∷ ps) all =
    let rest = rows_are h ps all.1 in
    let here : row_by_number h p.number ≡ publication_row h p = ap (row_if_there h) all.0 in
    λ k. here k ∷ rest k

-- what is told of a page of numbers is what is told of a page of publications
pub page_rows : (h : History) (i after : ℕ) → map (row_by_number h) (take 100 (filter (nat_lt after) (numbers_of i (pubs h)))) ≡ map (publication_row h) (publications_of h i after)
page_rows h i after =
    let found = all_found (pubs h) (pubs_count_down h) in
    ap (map (row_by_number h)) (page_numbers h i after)
    ∙ rows_are h (publications_of h i after)
    (each_take (IsFound (pubs h)) 100 (filter (is_later_of i after) (reverse (pubs h)))
    (each_filter (IsFound (pubs h)) (is_later_of i after) (reverse (pubs h)) (each_reverse (IsFound (pubs h)) (pubs h) found)))
