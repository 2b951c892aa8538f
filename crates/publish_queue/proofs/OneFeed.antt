-- One feed, before and after a call.
use Rattle.std.proofs.Common.{◌≡◌, ℕ, suc, ◌≤◌, ◌<◌, Bool, true, false, cond, ◌||◌, List, [], ◌∷◌, ◌++◌, map, refl, sym, ap, ◌∙◌, inl, inr, arith, append_assoc, append-nil, Some, None}
use Rattle.std.specs.Prelude.{nat_le, nat_lt}
use Rattle.std.specs.List.{filter, list_any}
use mathlib.Core.Bool.{true≢false}
use Rattle.std.proofs.lemmas.Bool.Decides.{nat_tests}
use Rattle.std.proofs.lemmas.Bool.{cases_lt}
use Rattle.std.proofs.lemmas.Grind.{common_steps}
use Rattle.std.proofs.lemmas.List.{map-append}
use Rattle.news_types.specs.Names.{Bytes}
use Rattle.news_types.specs.Due.{Pub, release_to}
use Rattle.news_types.specs.Feeds.{Dispatch, inserted, dispatch, is_out, is_waiting, due_to, feed_of, waiting_of}
use Rattle.news_types.proofs.Feeds.{Rises, AllFrom, AllTo, all_from_less, rises_filter, rises_place, rises_due_to, filter_place, place_end, out_none, out_later, waiting_later, waiting_all, out_is_to}
use Rattle.publish_queue.specs.declared.release.Release.{Release}
use Rattle.publish_queue.specs.declared.feed.Feed.{Feed}
use Rattle.publish_queue.specs.Coming.{first_by}
use Rattle.publish_queue.specs.Keeps.{IsRow, number_of, moment_of, release_of, own, own_waiting}
use Rattle.publish_queue.specs.Many.{release_by}
use Rattle.publish_queue.specs.Rows.{live, placed, moved, left, number_in, moment_in}
use Rattle.publish_queue.specs.Steps.{HasEntries, IsAdvanced, IsAdded, IsAlike}

-- ---- releases of publications

-- what is moved to a row, of those that wait in order
moved_is : (of : Release → ℕ) (n : ℕ) (row : List ℕ) (ws : List Dispatch) → Rises ws → moved of n row (map release_of ws) ≡ row ++ map (λ (d : Dispatch). of (release_of d)) (filter (is_out n) ws)
moved_is of n row [] rises = grind (arith, common_steps)
moved_is of n row (q ∷ qs) rises =
    elim (cases_lt n q.release) [
      | inl lt ↦
          let b : nat_le q.release n ≡ false = grind (arith, nat_tests) in
          let none : filter (is_out n) qs ≡ [] = out_none n qs (all_from_less (suc n) q.release qs (omega arith) rises.0) in
          rw (b, none) (grind (arith, common_steps))
      | inr le ↦
          let b : nat_le q.release n ≡ true = grind (arith, nat_tests) in
          rw b (moved_is of n (row ++ of (release_of q) ∷ []) qs rises.1 ∙ append_assoc row (of (release_of q) ∷ []) (map (λ (d : Dispatch). of (release_of d)) (filter (is_out n) qs)))
    ]

pub left_is : (n : ℕ) (ws : List Dispatch) → Rises ws → left n (map release_of ws) ≡ map release_of (filter (is_waiting n) ws)
left_is n [] rises = refl
left_is n (q ∷ qs) rises =
    elim (cases_lt n q.release) [
      | inl lt ↦
          let b : nat_le q.release n ≡ false = grind (arith, nat_tests) in
          let c : nat_lt n q.release ≡ true = grind (arith, nat_tests) in
          let all : filter (is_waiting n) qs ≡ qs = waiting_all n qs (all_from_less (suc n) q.release qs (omega arith) rises.0) in
          rw (b, c, all) refl
      | inr le ↦
          let b : nat_le q.release n ≡ true = grind (arith, nat_tests) in
          let c : nat_lt n q.release ≡ false = grind (arith, nat_tests) in
          rw (b, c) (left_is n qs rises.1)
    ]

pub placed_is : (p : Dispatch) (ws : List Dispatch) → placed (release_of p) (map release_of ws) ≡ map release_of (inserted p ws)
placed_is p [] = refl
placed_is p (q ∷ qs) = elim (nat_lt p.release q.release) as (λ b. cond b (release_of p ∷ release_of q ∷ map release_of qs) (release_of q ∷ placed (release_of p) (map release_of qs)) ≡ map release_of (cond b (p ∷ q ∷ qs) (q ∷ inserted p qs))) [
  | true ↦ refl
  | false ↦ ap (λ z. release_of q ∷ z) (placed_is p qs)
]

all_to_more : (a b : ℕ) (l : List Dispatch) → a ≤ b → AllTo a l → AllTo b l
all_to_more a b [] le all = tt
all_to_more a b (q ∷ qs) le all = (omega (arith, all.0), all_to_more a b qs le all.1)

-- ---- what is released between two moments

-- the first of them decides
none_out : (n : ℕ) (l : List Dispatch) → AllFrom (suc n) l → list_any (is_out n) l ≡ false
none_out n [] all = refl
none_out n (q ∷ qs) all = let b : nat_le q.release n ≡ false = grind (arith, nat_tests, all.0) in rw b (none_out n qs all.1)

pub first_decides : (n : ℕ) (l : List Dispatch) → Rises l → first_by n (map release_of l) ≡ list_any (is_out n) l
first_decides n [] rises = refl
first_decides n (q ∷ qs) rises =
    elim (cases_lt n q.release) [
      | inl lt ↦
          let b : nat_le q.release n ≡ false = grind (arith, nat_tests) in
          rw (b, none_out n qs (all_from_less (suc n) q.release qs (omega arith) rises.0)) refl
      | inr le ↦ let b : nat_le q.release n ≡ true = grind (arith, nat_tests) in rw b refl
    ]

filter_none : (t : Dispatch → Bool) (l : List Dispatch) → list_any t l ≡ false → filter t l ≡ []
filter_none t [] none = refl
filter_none t (p ∷ ps) none = by (t p) none (filter_none t ps)
  where
    by : (b : Bool) → (b || list_any t ps) ≡ false → (list_any t ps ≡ false → filter t ps ≡ []) → cond b (p ∷ filter t ps) (filter t ps) ≡ []
    by true no-one rest = absurd (true≢false no-one)
    by false no-one rest = rest no-one

all_stay : (n : ℕ) (l : List Dispatch) → list_any (is_out n) l ≡ false → filter (is_waiting n) l ≡ l
all_stay n [] none = refl
all_stay n (p ∷ ps) none = elim (cases_lt n p.release) [
  | inl lt ↦
      let a : nat_le p.release n ≡ false = grind (arith, nat_tests) in
      let b : nat_lt n p.release ≡ true = grind (arith, nat_tests) in
      rw b (ap (λ z. p ∷ z) (all_stay n ps (rw a at none)))
  | inr le ↦ let a : nat_le p.release n ≡ true = grind (arith, nat_tests) in absurd (true≢false (rw a at none))
]

-- nothing is released by n: the feed and what waits stay
pub feed_stays : (ps : List Pub) (m n : ℕ) (s : Bytes) → m ≤ n → list_any (is_out n) (waiting_of ps m s) ≡ false → feed_of ps n s ≡ feed_of ps m s
feed_stays ps m n s le none =
    out_later m n (due_to s ps) le (rises_due_to s ps)
    ∙ ap (λ l. feed_of ps m s ++ l) (filter_none (is_out n) (waiting_of ps m s) none)
    ∙ append-nil (feed_of ps m s)

pub waiting_stays : (ps : List Pub) (m n : ℕ) (s : Bytes) → m ≤ n → list_any (is_out n) (waiting_of ps m s) ≡ false → waiting_of ps n s ≡ waiting_of ps m s
waiting_stays ps m n s le none = sym (waiting_later m n (due_to s ps) le) ∙ all_stay n (waiting_of ps m s) none

-- ---- a feed

-- nothing that counts has changed
pub is_row_alike : (ps : List Pub) (m : ℕ) (f g : Feed) → IsRow ps m f → IsAlike f g → IsRow ps m g
is_row_alike ps m f g is step = record {
  row = record { numbers = rw (step.delivery.name, step.row.numbers) is.row.numbers; releases = rw (step.delivery.name, step.row.releases) is.row.releases };
  waiting = rw (step.delivery.name, step.waiting) is.waiting;
}

pub rises_waiting : (ps : List Pub) (m : ℕ) (s : Bytes) → Rises (waiting_of ps m s)
rises_waiting ps m s = rises_filter (is_waiting m) (due_to s ps) (rises_due_to s ps)

-- nothing is released by then
pub is_row_still : (ps : List Pub) (m n : ℕ) (f : Feed) → m ≤ n → list_any (is_out n) (waiting_of ps m f.name) ≡ false → IsRow ps m f → IsRow ps n f
is_row_still ps m n f le none is = record {
  row = record { numbers = rw (feed_stays ps m n f.name le none) is.row.numbers; releases = rw (feed_stays ps m n f.name le none) is.row.releases };
  waiting = rw (waiting_stays ps m n f.name le none) is.waiting;
}

-- a feed goes on to a later moment
moved_on : (of : Release → ℕ) (m n : ℕ) (s : Bytes) (ps : List Pub) → m ≤ n
    → moved of n (map (λ (d : Dispatch). of (release_of d)) (feed_of ps m s)) (map release_of (waiting_of ps m s)) ≡ map (λ (d : Dispatch). of (release_of d)) (feed_of ps n s)
moved_on of m n s ps le =
    let l = due_to s ps in
    let later = filter (is_waiting m) l in
    moved_is of n (map (λ (d : Dispatch). of (release_of d)) (filter (is_out m) l)) later (rises_waiting ps m s)
    ∙ sym (map-append (λ (d : Dispatch). of (release_of d)) (filter (is_out m) l) (filter (is_out n) later))
    ∙ ap (map (λ (d : Dispatch). of (release_of d))) (sym (out_later m n l le (rises_due_to s ps)))

pub is_row_advanced : (ps : List Pub) (m n : ℕ) (f g : Feed) → m ≤ n → IsRow ps m f → IsAdvanced n f g → IsRow ps n g
is_row_advanced ps m n f g le is step = record {
  row = record {
    numbers = rw (step.delivery.name, step.row.numbers, is.row.numbers, is.waiting) (moved_on number_in m n f.name ps le);
    releases = rw (step.delivery.name, step.row.releases, is.row.releases, is.waiting) (moved_on moment_in m n f.name ps le);
  };
  waiting = rw (step.delivery.name, step.waiting, is.waiting)
      (left_is n (waiting_of ps m f.name) (rises_waiting ps m f.name) ∙ ap (map release_of) (waiting_later m n (due_to f.name ps) le));
}

pub due_passed : (s : Bytes) (p : Pub) (ps : List Pub) → release_to s p.due ≡ None → due_to s (p ∷ ps) ≡ due_to s ps
due_passed s p ps apart = rw apart refl

pub due_more : (s : Bytes) (p : Pub) (ps : List Pub) (r : ℕ) → release_to s p.due ≡ Some r → due_to s (p ∷ ps) ≡ inserted (dispatch p r) (due_to s ps)
due_more s p ps r due = rw due refl

-- one more publication, which is not due to it
pub is_row_passed : (ps : List Pub) (m : ℕ) (p : Pub) (f : Feed) → release_to f.name p.due ≡ None → IsRow ps m f → IsRow (p ∷ ps) m f
is_row_passed ps m p f apart is =
    let same : due_to f.name (p ∷ ps) ≡ due_to f.name ps = due_passed f.name p ps apart in
    record {
      row = record { numbers = rw same is.row.numbers; releases = rw same is.row.releases };
      waiting = rw same is.waiting;
    }

-- a feed of which what counts is told for its old name
pub is_row_named : (ps : List Pub) (m : ℕ) (f g : Feed) (feed later : List Dispatch) → g.name ≡ f.name → feed_of ps m f.name ≡ feed → waiting_of ps m f.name ≡ later
    → HasEntries g.row (map number_of feed) (map moment_of feed) → live g.waiting.releases.items ≡ map release_of later → IsRow ps m g
is_row_named ps m f g feed later name feed_is later_is row waits =
    let feed_now : feed ≡ feed_of ps m g.name = sym feed_is ∙ ap (feed_of ps m) (sym name) in
    let later_now : later ≡ waiting_of ps m g.name = sym later_is ∙ ap (waiting_of ps m) (sym name) in
    record {
      row = record { numbers = row.numbers ∙ ap (map number_of) feed_now; releases = row.releases ∙ ap (map moment_of) feed_now };
      waiting = waits ∙ ap (map release_of) later_now;
    }

-- one more publication, which is due to it
pub is_row_added : (ps : List Pub) (m : ℕ) (p : Pub) (r : ℕ) (f g : Feed) → m ≤ r → release_to f.name p.due ≡ Some r → IsRow ps m f → IsAdded (release_by p.number r) m f g → IsRow (p ∷ ps) m g
is_row_added ps m p r f g le due is step =
    let l = due_to f.name ps in
    let d : Dispatch = dispatch p r in
    let rises : Rises l = rises_due_to f.name ps in
    let more : due_to f.name (p ∷ ps) ≡ inserted d l = due_more f.name p ps r due in
    elim (cases_lt m r) [
      | inl lt ↦
          let a : nat_le r m ≡ false = grind (arith, nat_tests) in
          let b : nat_lt m r ≡ true = grind (arith, nat_tests) in
          let out : filter (is_out m) (inserted d l) ≡ filter (is_out m) l = filter_place (is_out m) d l rises ∙ rw a refl in
          let late : filter (is_waiting m) (inserted d l) ≡ inserted d (filter (is_waiting m) l) = filter_place (is_waiting m) d l rises ∙ rw b refl in
          is_row_named (p ∷ ps) m f g (filter (is_out m) l) (inserted d (filter (is_waiting m) l)) step.delivery.name (ap (filter (is_out m)) more ∙ out) (ap (filter (is_waiting m)) more ∙ late)
          (record { numbers = (step.later lt).0.numbers ∙ is.row.numbers; releases = (step.later lt).0.releases ∙ is.row.releases })
          ((step.later lt).1 ∙ ap (placed (release_of d)) is.waiting ∙ placed_is d (filter (is_waiting m) l))
      | inr out ↦
          let a : nat_le r m ≡ true = grind (arith, nat_tests) in
          let b : nat_lt m r ≡ false = grind (arith, nat_tests) in
          let end : filter (is_out m) (inserted d l) ≡ filter (is_out m) l ++ d ∷ [] = filter_place (is_out m) d l rises ∙ rw a (place_end d (filter (is_out m) l) (all_to_more m r (filter (is_out m) l) le (out_is_to m l))) in
          let late : filter (is_waiting m) (inserted d l) ≡ filter (is_waiting m) l = filter_place (is_waiting m) d l rises ∙ rw b refl in
          is_row_named (p ∷ ps) m f g (filter (is_out m) l ++ d ∷ []) (filter (is_waiting m) l) step.delivery.name (ap (filter (is_out m)) more ∙ end) (ap (filter (is_waiting m)) more ∙ late)
          (record {
            numbers = (step.out out).0.numbers ∙ ap (λ xs. xs ++ p.number ∷ []) is.row.numbers ∙ sym (map-append number_of (filter (is_out m) l) (d ∷ []));
            releases = (step.out out).0.releases ∙ ap (λ xs. xs ++ r ∷ []) is.row.releases ∙ sym (map-append moment_of (filter (is_out m) l) (d ∷ []));
          })
          ((step.out out).1 ∙ is.waiting)
    ]

-- ---- by their own releases

pub rises_own : (ps : List Pub) → Rises (own ps)
rises_own [] = tt
rises_own (p ∷ ps) = rises_place (dispatch p p.release) (own ps) (rises_own ps)

pub rises_own_waiting : (ps : List Pub) (m : ℕ) → Rises (own_waiting ps m)
rises_own_waiting ps m = rises_filter (is_waiting m) (own ps) (rises_own ps)

-- one more publication is among those that wait, or its moment has come
pub own_added : (m : ℕ) (p : Pub) (ps : List Pub) (rs : List Release) → (p.release ≤ m → rs ≡ map release_of (own_waiting ps m))
    → (m < p.release → rs ≡ placed (release_by p.number p.release) (map release_of (own_waiting ps m))) → rs ≡ map release_of (own_waiting (p ∷ ps) m)
own_added m p ps rs out later =
    let d : Dispatch = dispatch p p.release in
    let more : own_waiting (p ∷ ps) m ≡ cond (nat_lt m p.release) (inserted d (own_waiting ps m)) (own_waiting ps m) = filter_place (is_waiting m) d (own ps) (rises_own ps) in
    elim (cases_lt m p.release) [
      | inl lt ↦
          let b : nat_lt m p.release ≡ true = grind (arith, nat_tests) in
          rw (more, b) (later lt ∙ placed_is d (own_waiting ps m))
      | inr le ↦
          let b : nat_lt m p.release ≡ false = grind (arith, nat_tests) in
          rw (more, b) (out le)
    ]

pub own_left : (m n : ℕ) (ps : List Pub) → m ≤ n → left n (map release_of (own_waiting ps m)) ≡ map release_of (own_waiting ps n)
own_left m n ps le = left_is n (own_waiting ps m) (rises_own_waiting ps m) ∙ ap (map release_of) (waiting_later m n (own ps) le)

pub own_stay : (ps : List Pub) (m n : ℕ) → m ≤ n → list_any (is_out n) (own_waiting ps m) ≡ false → own_waiting ps n ≡ own_waiting ps m
own_stay ps m n le none = sym (waiting_later m n (own ps) le) ∙ all_stay n (own_waiting ps m) none
