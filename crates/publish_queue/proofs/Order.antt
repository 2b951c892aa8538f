-- A release is put into its place among those that wait.
use Rattle.std.proofs.Common.{◌≡◌, ℕ, zero, suc, ◌<◌, ◌≤◌, Bool, true, false, cond, List, [], ◌∷◌, length, get_or, refl, sym, ap, ◌∙◌, arith, Result, Ok, Err, OnOk, OnErr}
use Rattle.std.specs.Prelude.{nat_le, nat_lt}
use Rattle.std.specs.List.{AllWithin, insert}
use Rattle.std.specs.List.Sorted.{IsNonDecreasingBy}
use Rattle.std.proofs.lemmas.Bool.Decides.{nat_tests}
use Rattle.publish_queue.specs.declared.release.Release.{Release}
use Rattle.publish_queue.specs.declared.release.Awaited.{Awaited}
use Rattle.publish_queue.specs.Rows.{awaited_moment, awaited_number, withdrawn, release_in, live, begins_withdrawn, NoneBefore, Rising, placed}

abbrev pub moment_of : Awaited → ℕ
moment_of w = awaited_moment w

none_before_at : (m : ℕ) (rs : List Awaited) (j : ℕ) (d : Awaited) → NoneBefore m rs → j < length rs → m ≤ awaited_moment (get_or rs j d)
none_before_at m [] j d all lt = absurd (omega (arith, lt))
none_before_at m (r ∷ rs) zero d all lt = all.0
none_before_at m (r ∷ rs) (suc j) d all lt = none_before_at m rs j d all.1 (omega (arith, lt))

pub rising_by_index : (rs : List Awaited) → Rising rs → IsNonDecreasingBy moment_of rs
rising_by_index [] rises i j d le lt = absurd (omega (arith, lt))
rising_by_index (r ∷ rs) rises zero zero d le lt = omega arith
rising_by_index (r ∷ rs) rises zero (suc j) d le lt = none_before_at (awaited_moment r) rs j d rises.0 (omega (arith, lt))
rising_by_index (r ∷ rs) rises (suc i) zero d le lt = absurd (omega (arith, le))
rising_by_index (r ∷ rs) rises (suc i) (suc j) d le lt = rising_by_index rs rises.1 i j d (omega (arith, le)) (omega (arith, lt))

-- ---- one is put in between those that come no later and those that come later

all_later : (r : Release) (ws : List Awaited) → AllWithin (λ (q : Awaited). nat_le (awaited_moment q) r.moment ≡ false) ws 0 (length ws) → placed r (live ws) ≡ r ∷ live ws
all_later r [] above = refl
all_later r (q ∷ qs) above = by (withdrawn q) (all_later r qs (λ k d low high. above (suc k) d (omega arith) (omega (arith, high))))
  where
    later : nat_lt r.moment (awaited_moment q) ≡ true
    later = let no : nat_le (awaited_moment q) r.moment ≡ false = above 0 q (omega arith) (omega arith) in grind (arith, nat_tests)

    by : (b : Bool) → placed r (live qs) ≡ r ∷ live qs → placed r (cond b (live qs) (release_in q ∷ live qs)) ≡ r ∷ cond b (live qs) (release_in q ∷ live qs)
    by true rest = rest
    by false rest = rw later refl

live_insert : (w : Awaited) (ws : List Awaited) (i : ℕ) → withdrawn w ≡ false → i ≤ length ws
    → AllWithin (λ (q : Awaited). nat_le (awaited_moment q) (awaited_moment w) ≡ true) ws 0 i
    → AllWithin (λ (q : Awaited). nat_le (awaited_moment q) (awaited_moment w) ≡ false) ws i (length ws)
    → live (insert ws i w) ≡ placed (release_in w) (live ws)
live_insert w [] zero is le below above = rw is refl
live_insert w [] (suc i) is le below above = absurd (omega (arith, le))
live_insert w (q ∷ qs) zero is le below above = rw is (sym (all_later (release_in w) (q ∷ qs) above))
live_insert w (q ∷ qs) (suc i) is le below above =
    by (withdrawn q) (live_insert w qs i is (omega (arith, le)) (λ k d low high. below (suc k) d (omega arith) (omega (arith, high))) (λ k d low high. above (suc k) d (omega (arith, low)) (omega (arith, high))))
  where
    no_later : nat_lt (awaited_moment w) (awaited_moment q) ≡ false
    no_later = let yes : nat_le (awaited_moment q) (awaited_moment w) ≡ true = below 0 q (omega arith) (omega arith) in grind (arith, nat_tests)

    by : (b : Bool) → live (insert qs i w) ≡ placed (release_in w) (live qs) → cond b (live (insert qs i w)) (release_in q ∷ live (insert qs i w)) ≡ placed (release_in w) (cond b (live qs) (release_in q ∷ live qs))
    by true rest = rest
    by false rest = rw no_later (ap (λ z. release_in q ∷ z) rest)

none_before_insert : (m : ℕ) (w : Awaited) (ws : List Awaited) (i : ℕ) → m ≤ awaited_moment w → NoneBefore m ws → NoneBefore m (insert ws i w)
none_before_insert m w [] zero le all = (le, tt)
none_before_insert m w [] (suc i) le all = (le, tt)
none_before_insert m w (q ∷ qs) zero le all = (le, all)
none_before_insert m w (q ∷ qs) (suc i) le all = (all.0, none_before_insert m w qs i le all.1)

none_before_by : (m : ℕ) (ws : List Awaited) → AllWithin (λ (q : Awaited). nat_le (awaited_moment q) m ≡ false) ws 0 (length ws) → NoneBefore m ws
none_before_by m [] above = tt
none_before_by m (q ∷ qs) above =
    let no : nat_le (awaited_moment q) m ≡ false = above 0 q (omega arith) (omega arith) in
    let le : m ≤ awaited_moment q = grind (arith, nat_tests) in
    (le, none_before_by m qs (λ k d low high. above (suc k) d (omega arith) (omega (arith, high))))

rising_insert : (w : Awaited) (ws : List Awaited) (i : ℕ) → i ≤ length ws → Rising ws
    → AllWithin (λ (q : Awaited). nat_le (awaited_moment q) (awaited_moment w) ≡ true) ws 0 i
    → AllWithin (λ (q : Awaited). nat_le (awaited_moment q) (awaited_moment w) ≡ false) ws i (length ws)
    → Rising (insert ws i w)
rising_insert w [] zero le rises below above = (tt, tt)
rising_insert w [] (suc i) le rises below above = absurd (omega (arith, le))
rising_insert w (q ∷ qs) zero le rises below above = (none_before_by (awaited_moment w) (q ∷ qs) above, rises)
rising_insert w (q ∷ qs) (suc i) le rises below above =
    let yes : nat_le (awaited_moment q) (awaited_moment w) ≡ true = below 0 q (omega arith) (omega arith) in
    let no_later : awaited_moment q ≤ awaited_moment w = grind (arith, nat_tests) in
    (none_before_insert (awaited_moment q) w qs i no_later rises.0, rising_insert w qs i (omega (arith, le)) rises.1 (λ k d low high. below (suc k) d (omega arith) (omega (arith, high))) (λ k d low high. above (suc k) d (omega (arith, low)) (omega (arith, high))))

-- and so is one that was made of a release
pub live_placed : (w : Awaited) (r : Release) (ws : List Awaited) (i : ℕ) → awaited_moment w ≡ r.moment → awaited_number w ≡ r.number → withdrawn w ≡ false → i ≤ length ws
    → AllWithin (λ (q : Awaited). nat_le (awaited_moment q) r.moment ≡ true) ws 0 i
    → AllWithin (λ (q : Awaited). nat_le (awaited_moment q) r.moment ≡ false) ws i (length ws)
    → live (insert ws i w) ≡ placed r (live ws)
live_placed w r ws i moment number is le below above =
    live_insert w ws i is le (rw moment below) (rw moment above) ∙ ap (λ q. placed q (live ws)) is_release
  where
    is_release : release_in w ≡ r
    is_release = λ j. record { moment = moment j; number = number j }

pub rising_placed : (w : Awaited) (m : ℕ) (ws : List Awaited) (i : ℕ) → awaited_moment w ≡ m → i ≤ length ws → Rising ws
    → AllWithin (λ (q : Awaited). nat_le (awaited_moment q) m ≡ true) ws 0 i
    → AllWithin (λ (q : Awaited). nat_le (awaited_moment q) m ≡ false) ws i (length ws)
    → Rising (insert ws i w)
rising_placed w m ws i moment le rises below above = rising_insert w ws i le rises (rw moment below) (rw moment above)

pub begins_insert : (w : Awaited) (ws : List Awaited) (i : ℕ) → withdrawn w ≡ false → begins_withdrawn ws ≡ false → begins_withdrawn (insert ws i w) ≡ false
begins_insert w [] zero is begins = is
begins_insert w [] (suc i) is begins = is
begins_insert w (q ∷ qs) zero is begins = is
begins_insert w (q ∷ qs) (suc i) is begins = begins

-- what cannot fail is done
pub done : {T E : Type 0} {P Q : Type 0} (r : Result T E) → OnOk r P → OnErr r Q → (Q → ⊥) → P
done (Ok x) ok err not = ok
done (Err e) ok err not = absurd (not err)
