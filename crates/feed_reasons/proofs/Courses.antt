-- What is said to be sent is that entry of the feed, and what is said to wait waits.
use Rattle.std.proofs.Common.{◌≡◌, ℕ, suc, ◌+◌, ◌<◌, ◌==◌, Bool, true, false, ◌&&◌, ◌||◌, cond, Option, Some, None, List, [], ◌∷◌, refl, sym, ap, subst, ◌∙◌, arith}
use Rattle.std.specs.Prelude.{is_some, nat_le, nat_lt, slice_get}
use Rattle.std.specs.List.{filter, list_any}
use mathlib.Core.Bool.{true≢false}
use Rattle.std.proofs.lemmas.Bool.Decides.{nat_tests}
use Rattle.news_types.specs.Names.{Bytes}
use Rattle.news_types.specs.History.{History, moment}
use Rattle.news_types.specs.Due.{Pub, release_to}
use Rattle.news_types.specs.Publications.{pubs, standing}
use Rattle.news_types.specs.Feeds.{Dispatch, dispatch, inserted, put, due_to, is_out, is_waiting, feed, waiting}
use Rattle.news_types.specs.Delivery.{acked}
use Rattle.feed_reasons.specs.declared.course.Course.TheVariants.{NotDue, Waits, Sent}
use Rattle.feed_reasons.specs.Courses.{numbered, due_of, place_from, place, sent_as, course_by, course}
use Rattle.feed_reasons.specs.Laws.{IsAmong, IsEntry, NotDueIsSaid, SentIsEntry, WaitsAsSaid}

-- ---- one of the dispatches

or_turned : (a b c : Bool) → (a || (b || c)) ≡ (b || (a || c))
or_turned true true c = refl
or_turned true false c = refl
or_turned false true c = refl
or_turned false false c = refl

any_inserted : (t : Dispatch → Bool) (d : Dispatch) (ds : List Dispatch) → list_any t (inserted d ds) ≡ (t d || list_any t ds)
any_inserted t d [] = refl
any_inserted t d (e ∷ ds) = by (nat_lt d.release e.release) (any_inserted t d ds)
  where
    by : (b : Bool) → list_any t (inserted d ds) ≡ (t d || list_any t ds) → list_any t (cond b (d ∷ e ∷ ds) (e ∷ inserted d ds)) ≡ (t d || (t e || list_any t ds))
    by true rest = refl
    by false rest = ap (λ (b : Bool). t e || b) rest ∙ or_turned (t e) (t d) (list_any t ds)

any_filter : (u t : Dispatch → Bool) (ds : List Dispatch) → list_any t (filter u ds) ≡ list_any (λ d. u d && t d) ds
any_filter u t [] = refl
any_filter u t (d ∷ ds) = by (u d) (any_filter u t ds)
  where
    by : (b : Bool) → list_any t (filter u ds) ≡ list_any (λ d. u d && t d) ds → list_any t (cond b (d ∷ filter u ds) (filter u ds)) ≡ ((b && t d) || list_any (λ d. u d && t d) ds)
    by true rest = ap (λ (b : Bool). t d || b) rest
    by false rest = rest

or_left : (a b : Bool) → a ≡ true → (a || b) ≡ true
or_left true b is = refl
or_left false b is = absurd (true≢false (sym is))

or_right : (a b : Bool) → b ≡ true → (a || b) ≡ true
or_right true b is = refl
or_right false b is = is

-- what is due among publications is among their dispatches
any_due : (t : Dispatch → Bool) (n r : ℕ) (s : Bytes) (ps : List Pub) → ((p : Pub) → p.number ≡ n → t (dispatch p r) ≡ true) → due_of s (numbered n ps) ≡ Some r → list_any t (due_to s ps) ≡ true
any_due t n r s [] passes is = absurd (cc (is))
any_due t n r s (p ∷ ps) passes is = by (p.number == n) refl is (λ later. any_due t n r s ps passes later)
  where
    here : p.number ≡ n → (o : Option ℕ) → o ≡ Some r → list_any t (put p o (due_to s ps)) ≡ true
    here number None is = absurd (cc (is))
    here number (Some time) is =
        any_inserted t (dispatch p time) (due_to s ps)
        ∙ or_left (t (dispatch p time)) (list_any t (due_to s ps)) (ap (λ (k : ℕ). t (dispatch p k)) (time_is time is) ∙ passes p number)
      where
        time_is : (time : ℕ) → Some time ≡ Some r → time ≡ r
        time_is time same = cc

    there : (o : Option ℕ) → list_any t (due_to s ps) ≡ true → list_any t (put p o (due_to s ps)) ≡ true
    there None rest = rest
    there (Some time) rest = any_inserted t (dispatch p time) (due_to s ps) ∙ or_right (t (dispatch p time)) (list_any t (due_to s ps)) rest

    by : (b : Bool) → (p.number == n) ≡ b → due_of s (cond b (Some p) (numbered n ps)) ≡ Some r → (due_of s (numbered n ps) ≡ Some r → list_any t (due_to s ps) ≡ true) → list_any t (put p (release_to s p.due) (due_to s ps)) ≡ true
    by true number found later = here (grind (arith, nat_tests, number)) (release_to s p.due) found
    by false number found later = there (release_to s p.due) (later found)

abbrev is_numbered : ℕ → Dispatch → Bool
is_numbered n d = d.shown.number == n

both_true : (a b : Bool) → a ≡ true → b ≡ true → (a && b) ≡ true
both_true a b x y = λ i. x i && y i

-- ---- its place

pub record HasPlace (n k : ℕ) (ds : List Dispatch) : Type 0 where
  pub before : ℕ
  pub dispatch : Dispatch
  pub place : place_from n k ds ≡ before + k
  pub there : slice_get ds before ≡ Some dispatch
  pub number : dispatch.shown.number ≡ n

has_place : (n k : ℕ) (ds : List Dispatch) → list_any (is_numbered n) ds ≡ true → HasPlace n k ds
has_place n k [] some = absurd (true≢false (sym some))
has_place n k (d ∷ ds) some = by (is_numbered n d) refl some (λ later. has_place n (k + 1) ds later)
  where
    by : (b : Bool) → is_numbered n d ≡ b → (b || list_any (is_numbered n) ds) ≡ true → (list_any (is_numbered n) ds ≡ true → HasPlace n (k + 1) ds) → HasPlace n k (d ∷ ds)
    by true is some later = record {
      before = 0;
      dispatch = d;
      place = ap (λ (b : Bool). cond b k (place_from n (k + 1) ds)) is ∙ omega arith;
      there = refl;
      number = grind (arith, nat_tests, is);
    }
    by false is some later =
        let rest = later some in
        record {
          before = suc rest.before;
          dispatch = rest.dispatch;
          place = ap (λ (b : Bool). cond b k (place_from n (k + 1) ds)) is ∙ rest.place ∙ omega arith;
          there = rest.there;
          number = rest.number;
        }

-- ---- courses

sent_of : (k j : ℕ) (a b : Bool) → Sent k a ≡ Sent j b → (k ≡ j) × (a ≡ b)
sent_of k j a b same = (cc, cc)

waits_of : (a b : ℕ) → Waits a ≡ Waits b → a ≡ b
waits_of a b same = cc

-- by its releases
not_due_only : (h : History) (n : ℕ) (s : Bytes) (o q : Option ℕ) → course_by h s n o q ≡ NotDue → is_some o ≡ false
not_due_only h n s None q is = refl
not_due_only h n s (Some r) None is = absurd (cc (is))
not_due_only h n s (Some r) (Some time) is = by (nat_lt (moment h) time) is
  where
    by : (b : Bool) → cond b (Waits time) (sent_as h s (place h s n)) ≡ NotDue → true ≡ false
    by true same = absurd (cc (same))
    by false same = absurd (cc (same))

not_due_there : (h : History) (n : ℕ) (s : Bytes) (o q : Option ℕ) → is_some o ≡ false → course_by h s n o q ≡ NotDue
not_due_there h n s None q is = refl
not_due_there h n s (Some r) q is = absurd (true≢false is)

pub not_due_is_said : NotDueIsSaid
not_due_is_said h n s p found =
    let by_this : course h n s ≡ course_by h s n (release_to s p.due) (due_of s (numbered n (standing h))) = ap (λ (o : Option Pub). course_by h s n (due_of s o) (due_of s (numbered n (standing h)))) found in
    record {
      only = λ is. not_due_only h n s (release_to s p.due) (due_of s (numbered n (standing h))) (sym by_this ∙ is);
      where_not = λ is. by_this ∙ not_due_there h n s (release_to s p.due) (due_of s (numbered n (standing h))) is;
    }

pub sent_is_entry : SentIsEntry
sent_is_entry h n s k seen is = by (due_of s (numbered n (pubs h))) (due_of s (numbered n (standing h))) refl is
  where
    in_feed : (r : ℕ) → due_of s (numbered n (standing h)) ≡ Some r → nat_lt (moment h) r ≡ false → list_any (is_numbered n) (feed h s) ≡ true
    in_feed r stands out =
        any_filter (is_out (moment h)) (is_numbered n) (due_to s (standing h))
        ∙ any_due (λ d. is_out (moment h) d && is_numbered n d) n r s (standing h)
        (λ p number. both_true (nat_le r (moment h)) (p.number == n) (grind (arith, nat_tests, out)) (grind (arith, nat_tests, number))) stands

    sent : (r : ℕ) (b : Bool) → due_of s (numbered n (standing h)) ≡ Some r → nat_lt (moment h) r ≡ b → cond b (Waits r) (sent_as h s (place h s n)) ≡ Sent k seen → IsEntry h s n k × (seen ≡ nat_le k (acked h s))
    sent r true stands waits same = absurd (cc (same))
    sent r false stands out same =
        let found = has_place n 1 (feed h s) (in_feed r stands out) in
        let one = sent_of (place h s n) k (nat_le (place h s n) (acked h s)) seen same in (
          record { before = found.before; dispatch = found.dispatch; place = sym one.0 ∙ found.place; there = found.there; number = found.number },
          sym one.1 ∙ ap (λ (j : ℕ). nat_le j (acked h s)) one.0,
        )

    by : (o q : Option ℕ) → due_of s (numbered n (standing h)) ≡ q → course_by h s n o q ≡ Sent k seen → IsEntry h s n k × (seen ≡ nat_le k (acked h s))
    by None q stands same = absurd (cc (same))
    by (Some r) None stands same = absurd (cc (same))
    by (Some r) (Some time) stands same = sent time (nat_lt (moment h) time) stands refl same

-- one of a list that passes
pub any_among : {A : Type 0} (t : A → Bool) (xs : List A) → list_any t xs ≡ true → (x : A) × (t x ≡ true) × IsAmong xs x
any_among t [] some = absurd (true≢false (sym some))
any_among {A = A} t (x ∷ xs) some = by (t x) refl some (λ later. any_among t xs later)
  where
    by : (b : Bool) → t x ≡ b → (b || list_any t xs) ≡ true → (list_any t xs ≡ true → (y : A) × (t y ≡ true) × IsAmong xs y) → (y : A) × (t y ≡ true) × IsAmong (x ∷ xs) y
    by true passes some later = (x, passes, ([], xs, refl))
    by false fails some later = let rest = later some in (rest.0, rest.1, (x ∷ rest.2.0, rest.2.1, ap (λ zs. x ∷ zs) rest.2.2))

pub waits_as_said : WaitsAsSaid
waits_as_said h n s time is = by (due_of s (numbered n (pubs h))) (due_of s (numbered n (standing h))) refl is
  where
    test : ℕ → Dispatch → Bool
    test r d = is_numbered n d && (d.release == r)

    waits : (r : ℕ) (b : Bool) → due_of s (numbered n (standing h)) ≡ Some r → nat_lt (moment h) r ≡ b → cond b (Waits r) (sent_as h s (place h s n)) ≡ Waits time → (moment h < time) × (d : Dispatch) × (d.shown.number ≡ n) × (d.release ≡ time) × IsAmong (waiting h s) d
    waits r false stands out same = absurd (cc (same))
    waits r true stands later same =
        let time_is = waits_of r time same in
        let some : list_any (test r) (waiting h s) ≡ true =
        any_filter (is_waiting (moment h)) (test r) (due_to s (standing h))
        ∙ any_due (λ d. is_waiting (moment h) d && test r d) n r s (standing h)
        (λ p number. both_true (nat_lt (moment h) r) ((p.number == n) && (r == r)) later (both_true (p.number == n) (r == r) (grind (arith, nat_tests, number)) (grind (arith, nat_tests)))) stands in
        let one = any_among (test r) (waiting h s) some in
        let parts = both_parts (is_numbered n one.0) (one.0.release == r) one.1 in
        (subst (λ (t : ℕ). moment h < t) time_is (grind (arith, nat_tests, later)), one.0, grind (arith, nat_tests, parts.0), grind (arith, nat_tests, parts.1) ∙ time_is, one.2)
      where
        both_parts : (a b : Bool) → (a && b) ≡ true → (a ≡ true) × (b ≡ true)
        both_parts true b is = (refl, is)
        both_parts false b is = absurd (true≢false (sym is))

    by : (o q : Option ℕ) → due_of s (numbered n (standing h)) ≡ q → course_by h s n o q ≡ Waits time → (moment h < time) × (d : Dispatch) × (d.shown.number ≡ n) × (d.release ≡ time) × IsAmong (waiting h s) d
    by None q stands same = absurd (cc (same))
    by (Some r) None stands same = absurd (cc (same))
    by (Some r) (Some t) stands same = waits t (nat_lt (moment h) t) stands refl same
