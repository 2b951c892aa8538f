-- The publication of a number, and the numbers of an item's publications.
use Rattle.std.proofs.Common.{◌≡◌, ℕ, zero, suc, ◌==◌, Bool, true, false, cond, ◌||◌, List, [], ◌∷◌, ◌++◌, length, map, ◌<◌, arith, Option, Some, None, refl, sym, ap, ◌∙◌}
use Rattle.std.proofs.lemmas.Bool.Decides.{nat_tests}
use Rattle.std.specs.List.{slice_get, filter}
use Rattle.std.specs.Option.{option_map}
use Rattle.news_types.specs.declared.query.Publication.{Publication}
use Rattle.news_types.specs.History.{History}
use Rattle.news_types.specs.Members.{Each}
use Rattle.news_types.specs.Due.{Pub, shown, left_behind, taken_back}
use Rattle.news_types.specs.Publications.{pubs, standing}
use Rattle.news_types.proofs.Members.{some_is, none_some, each_map}
use Rattle.news_types.proofs.Numbering.{CountsDown, Falls, IsShownAmong, number_shown, pubs_count_down, standing_among}
use Rattle.feed_reasons.specs.Courses.{numbered}
use Rattle.publications.specs.Numbers.{numbers_of}
use Rattle.desk_records.specs.Slots.{is_among}
use Rattle.desk_records.proofs.Lists.{any_pushed}

-- ---- the publication of a number

pub numbered_left : (m i n : ℕ) (ps : List Pub) → numbered n (taken_back m i ps) ≡ option_map (left_behind m i) (numbered n ps)
numbered_left m i n [] = refl
numbered_left m i n (p ∷ ps) = by (p.number == n) (numbered_left m i n ps)
  where
    by : (b : Bool) → numbered n (taken_back m i ps) ≡ option_map (left_behind m i) (numbered n ps)
        → cond b (Some (left_behind m i p)) (numbered n (taken_back m i ps)) ≡ option_map (left_behind m i) (cond b (Some p) (numbered n ps))
    by true rest = refl
    by false rest = rest

-- of numbers that are all lower
pub numbered_none : (n : ℕ) (ps : List Pub) → Each (λ (p : Pub). p.number < n) ps → numbered n ps ≡ None
numbered_none n [] lower = refl
numbered_none n (p ∷ ps) lower = let no : (p.number == n) ≡ false = grind (arith, nat_tests, lower.0) in rw no (numbered_none n ps lower.1)

-- it, if it passes
abbrev pub if_kept : (Pub → Bool) → Option Pub → Option Pub
if_kept t None = None
if_kept t (Some p) = cond (t p) (Some p) None

pub numbered_filter : (t : Pub → Bool) (n : ℕ) (ps : List Pub) → Falls ps → numbered n (filter t ps) ≡ if_kept t (numbered n ps)
numbered_filter t n [] falls = refl
numbered_filter t n (p ∷ ps) falls = by (p.number == n) (t p) refl refl (numbered_filter t n ps falls.1)
  where
    by : (a b : Bool) → (p.number == n) ≡ a → t p ≡ b → numbered n (filter t ps) ≡ if_kept t (numbered n ps)
        → numbered n (cond b (p ∷ filter t ps) (filter t ps)) ≡ if_kept t (cond a (Some p) (numbered n ps))
    by true true number passes rest = rw (number, passes) refl
    by true false number fails rest =
        let lower : Each (λ (q : Pub). q.number < n) ps = each_map (λ (q : Pub). q.number < p.number) (λ (q : Pub). q.number < n) ps (λ q lt. grind (arith, nat_tests, lt, number)) falls.0 in
        rw fails (rest ∙ ap (if_kept t) (numbered_none n ps lower))
    by false true number passes rest = rw number rest
    by false false number fails rest = rest

-- what holds of each holds of it, and it has that number
pub numbered_has : (P : Pub → Type 0) (n : ℕ) (ps : List Pub) (p : Pub) → Each P ps → numbered n ps ≡ Some p → P p × (p.number ≡ n)
numbered_has P n [] p each is = absurd (none_some p is)
numbered_has P n (q ∷ ps) p each is = by (q.number == n) refl is (numbered_has P n ps p each.1)
  where
    by : (b : Bool) → (q.number == n) ≡ b → cond b (Some q) (numbered n ps) ≡ Some p → (numbered n ps ≡ Some p → P p × (p.number ≡ n)) → P p × (p.number ≡ n)
    by true number found rest = let e : q ≡ p = some_is q p found in rw (← e) (each.0, grind (arith, nat_tests, number))
    by false number found rest = rest found

-- ---- the numbers of an item

abbrev pub is_of : ℕ → Option Pub → Bool
is_of i None = false
is_of i (Some p) = p.item == i

pub counted_below : (ps : List Pub) → CountsDown ps → Each (λ (p : Pub). p.number < suc (length ps)) ps
counted_below [] down = tt
counted_below (p ∷ ps) down =
    (omega (arith, down.0), each_map (λ (q : Pub). q.number < suc (length ps)) (λ (q : Pub). q.number < suc (suc (length ps))) ps (λ q lt. omega (arith, lt)) (counted_below ps down.1))

pub among_is : (i n : ℕ) (ps : List Pub) → CountsDown ps → is_among n (numbers_of i ps) ≡ is_of i (numbered n ps)
among_is i n [] down = refl
among_is i n (p ∷ ps) down = by (p.item == i) (p.number == n) refl refl (among_is i n ps down.1)
  where
    or_true : (b : Bool) → (b || true) ≡ true
    or_true true = refl
    or_true false = refl

    or_false : (b : Bool) → (b || false) ≡ b
    or_false true = refl
    or_false false = refl

    by : (a b : Bool) → (p.item == i) ≡ a → (p.number == n) ≡ b → is_among n (numbers_of i ps) ≡ is_of i (numbered n ps)
        → is_among n (cond a (numbers_of i ps ++ p.number ∷ []) (numbers_of i ps)) ≡ is_of i (cond b (Some p) (numbered n ps))
    by true true item number rest = any_pushed (λ (k : ℕ). k == n) (numbers_of i ps) p.number ∙ rw (number, item) (or_true (is_among n (numbers_of i ps)))
    by true false item number rest = any_pushed (λ (k : ℕ). k == n) (numbers_of i ps) p.number ∙ rw number (or_false (is_among n (numbers_of i ps)) ∙ rest)
    by false true item number rest =
        let lower : Each (λ (q : Pub). q.number < n) ps = each_map (λ (q : Pub). q.number < suc (length ps)) (λ (q : Pub). q.number < n) ps (λ q lt. grind (arith, nat_tests, lt, number, down.0)) (counted_below ps down.1) in
        rest ∙ ap (is_of i) (numbered_none n ps lower) ∙ sym item
    by false false item number rest = rest

shown_is : (i : ℕ) (ps : List Pub) (it : Publication) (k : ℕ) → CountsDown ps → slice_get (map shown ps) k ≡ Some it → is_of i (numbered it.number ps) ≡ (it.item == i)
shown_is i [] it k down is = absurd (none_some it is)
shown_is i (p ∷ ps) it zero down is =
    let e : shown p ≡ it = some_is (shown p) it is in
    let same : (p.number == it.number) ≡ true = grind (arith, nat_tests, ap (λ (x : Publication). x.number) e) in
    rw same (ap (λ (x : Publication). x.item == i) e)
shown_is i (p ∷ ps) it (suc k) down is =
    let other : (p.number == it.number) ≡ false = grind (arith, nat_tests, number_shown ps k it down.1 is, down.0) in
    rw other (shown_is i ps it k down.1 is)

-- a standing publication is of the item whose numbers have its own
pub among_standing : (h : History) (i n : ℕ) (q : Pub) → numbered n (standing h) ≡ Some q → is_among n (numbers_of i (pubs h)) ≡ (q.item == i)
among_standing h i n q found =
    let down = pubs_count_down h in
    let has = numbered_has (IsShownAmong (pubs h)) n (standing h) q (standing_among h) found in
    among_is i n (pubs h) down ∙ ap (λ (k : ℕ). is_of i (numbered k (pubs h))) (sym has.1) ∙ shown_is i (pubs h) (shown q) has.0.0 down has.0.1
