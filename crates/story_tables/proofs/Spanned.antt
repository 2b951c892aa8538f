-- Between which moments what stands of an item is released.
use Rattle.std.proofs.Common.{Global, ◌≡◌, ℕ, ◌≤◌, ◌<◌, ◌==◌, ◌&&◌, ◌||◌, Bool, true, false, cond, max, List, [], ◌∷◌, length, get_or, drop, ◌+◌, Option, Some, None, refl, sym, ap, ◌∙◌, arith}
use Rattle.std.specs.Prelude.{Vec, Result, Ok, Err, IfOk, nat_le, unwrap_or, is_some}
use Rattle.std.specs.Option.{option_or}
use Rattle.std.proofs.lemmas.List.{at_drop_more}
use Rattle.std.proofs.lemmas.Bool.{false≢true}
use Rattle.std.proofs.lemmas.Bool.Decides.{nat_tests}
use Rattle.news_types.specs.declared.query.Due.{Due}
use Rattle.news_types.specs.Names.{Bytes, same}
use Rattle.news_types.specs.Members.{Each}
use Rattle.news_types.specs.Due.{Pub, release_to, is_by, had_by, latest}
use Rattle.news_types.proofs.Members.{same_is, same_self}
use Rattle.publish_queue.specs.declared.release.Span.{Span}
use Rattle.publish_queue.specs.Rows.{is_among}
use Rattle.publish_queue.specs.Many.{is_within}
use Rattle.publish_queue.specs.Withdrawn.{AreWithin}
use Rattle.publications.specs.Keeps.{is_given}
use Rattle.story_tables.specs.Feeds.{last_release, spans_of, AreSpansOf}

-- ---- the spans of what is told

both_and : (a b c : Bool) → ((a && b) || (c && b)) ≡ ((a || c) && b)
both_and true true c = refl
both_and true false true = refl
both_and true false false = refl
both_and false b c = refl

within_spans : (soonest newest : List Due) (s : Bytes) (moment : ℕ) → is_within s moment (spans_of soonest newest) ≡ (is_given moment s soonest && nat_le moment (last_release newest s))
within_spans [] newest s moment = refl
within_spans (d ∷ ds) newest s moment = by (same s d.subscriber) refl (within_spans ds newest s moment)
  where
    by : (b : Bool) → same s d.subscriber ≡ b → is_within s moment (spans_of ds newest) ≡ (is_given moment s ds && nat_le moment (last_release newest s))
        → ((b && (nat_le d.release moment && nat_le moment (last_release newest d.subscriber))) || is_within s moment (spans_of ds newest)) ≡ (((b && nat_le d.release moment) || is_given moment s ds) && nat_le moment (last_release newest s))
    by true is rest =
        ap (λ t. (nat_le d.release moment && nat_le moment (last_release newest t)) || is_within s moment (spans_of ds newest)) (sym (same_is s d.subscriber is))
        ∙ ap (λ b. (nat_le d.release moment && nat_le moment (last_release newest s)) || b) rest
        ∙ both_and (nat_le d.release moment) (nat_le moment (last_release newest s)) (is_given moment s ds)
    by false is rest = rest

pub spans_are : (soonest newest : List Due) (st : List Pub) (i : ℕ) → ((m : ℕ) (s : Bytes) → is_given m s soonest ≡ had_by m st i s) → ((s : Bytes) → unwrap_or (release_to s newest) 0 ≡ latest st i s)
    → AreSpansOf (spans_of soonest newest) st i
spans_are soonest newest st i given last s moment = within_spans soonest newest s moment ∙ rw (given moment s, last s) refl

pub spans_ok : {E : Type 0} (r : Result (Vec Span Global) E) (soonest newest : List Due) (st : List Pub) (i : ℕ) → IfOk r (λ spans. spans.items ≡ spans_of soonest newest)
    → ((m : ℕ) (s : Bytes) → is_given m s soonest ≡ had_by m st i s) → ((s : Bytes) → unwrap_or (release_to s newest) 0 ≡ latest st i s) → IfOk r (λ spans. AreSpansOf spans.items st i)
spans_ok (Ok spans) soonest newest st i are given last = rw are (spans_are soonest newest st i given last)
spans_ok (Err e) soonest newest st i are given last = tt

-- ---- what stands is in the spans

pub record IsReached (st : List Pub) (i : ℕ) (s : Bytes) (r : ℕ) : Type 0 where
  pub had : had_by r st i s ≡ true
  pub late : r ≤ latest st i s

or_second : (a b : Bool) → b ≡ true → (a || b) ≡ true
or_second true b is = refl
or_second false b is = is

reached_more : (q : Pub) (st : List Pub) (i : ℕ) (s : Bytes) (r : ℕ) → IsReached st i s r → IsReached (q ∷ st) i s r
reached_more q st i s r is = record {
  had = or_second (q.item == i && is_by r (release_to s q.due)) (had_by r st i s) is.had;
  late = by (q.item == i);
}
  where
    by : (b : Bool) → r ≤ cond b (max (unwrap_or (release_to s q.due) 0) (latest st i s)) (latest st i s)
    by true = omega (arith, is.late)
    by false = is.late

reached_here : (q : Pub) (st : List Pub) (i : ℕ) (s : Bytes) (r : ℕ) → (q.item == i) ≡ true → release_to s q.due ≡ Some r → IsReached (q ∷ st) i s r
reached_here q st i s r is at = record {
  had = let yes : nat_le r r ≡ true = grind (arith, nat_tests) in rw (is, at, yes) refl;
  late = let more : r ≤ max r (latest st i s) = omega arith in rw (is, at) more;
}

pub are_within : (m i : ℕ) (numbers : List ℕ) (spans : List Span) (st : List Pub) → Each (λ (q : Pub). is_among q.number numbers ≡ true → (q.item == i) ≡ true) st → AreSpansOf spans st i → AreWithin m numbers spans st
are_within m i numbers spans st all are = by st all (λ s r is. are s r ∙ rw is.had (let yes : nat_le r (latest st i s) ≡ true = let le = is.late in grind (arith, nat_tests) in yes))
  where
    by : (qs : List Pub) → Each (λ (q : Pub). is_among q.number numbers ≡ true → (q.item == i) ≡ true) qs → ((s : Bytes) (r : ℕ) → IsReached qs i s r → is_within s r spans ≡ true) → AreWithin m numbers spans qs
    by [] all reach = tt
    by (q ∷ qs) all reach = (λ among s r at late. reach s r (reached_here q qs i s r (all.0 among) at), by qs all.1 (λ s r is. reach s r (reached_more q qs i s r is)))

pub have_item : (i : ℕ) (numbers : List ℕ) (st : List Pub) → Each (λ (q : Pub). is_among q.number numbers ≡ (q.item == i)) st → Each (λ (q : Pub). is_among q.number numbers ≡ true → (q.item == i) ≡ true) st
have_item i numbers [] all = tt
have_item i numbers (q ∷ qs) all = (λ among. sym all.0 ∙ among, have_item i numbers qs all.1)

pub or_none : (b : Bool) → (b || false) ≡ b
or_none true = refl
or_none false = refl

-- ---- the map of the newest releases

same_turned : (a b : Bytes) → same a b ≡ same b a
same_turned a b = by (same a b) (same b a) refl refl
  where
    by : (x y : Bool) → same a b ≡ x → same b a ≡ y → x ≡ y
    by true true one two = refl
    by true false one two = absurd (false≢true (sym two ∙ ap (λ t. same t a) (sym (same_is a b one)) ∙ same_self a))
    by false true one two = absurd (false≢true (sym one ∙ ap (λ t. same t b) (sym (same_is b a two)) ∙ same_self b))
    by false false one two = refl

-- one that is there stays
pub put_stays : (f : Bytes → Option ℕ) (d : Due) → is_some (f d.subscriber) ≡ true → (s : Bytes) → f s ≡ option_or (f s) (release_to s (d ∷ []))
put_stays f d there s = by (same s d.subscriber) refl (f s) refl
  where
    by : (b : Bool) → same s d.subscriber ≡ b → (o : Option ℕ) → f s ≡ o → o ≡ option_or o (cond b (Some d.release) None)
    by b is (Some r) at = refl
    by true is None at = absurd (false≢true (sym (ap is_some (ap f (sym (same_is s d.subscriber is)) ∙ at)) ∙ there))
    by false is None at = refl

-- one that was not there is put
pub put_there : (f : Bytes → Option ℕ) (d : Due) → is_some (f d.subscriber) ≡ false → (s : Bytes) → cond (same d.subscriber s) (Some d.release) (f s) ≡ option_or (f s) (release_to s (d ∷ []))
put_there f d gone s = ap (λ b. cond b (Some d.release) (f s)) (same_turned d.subscriber s) ∙ by (same s d.subscriber) refl (f s) refl
  where
    by : (b : Bool) → same s d.subscriber ≡ b → (o : Option ℕ) → f s ≡ o → cond b (Some d.release) o ≡ option_or o (cond b (Some d.release) None)
    by true is (Some r) at = absurd (false≢true (sym gone ∙ ap is_some (ap f (sym (same_is s d.subscriber is)) ∙ at)))
    by true is None at = refl
    by false is (Some r) at = refl
    by false is None at = refl

or_next : (o : Option ℕ) (s : Bytes) (d : Due) (rest : List Due) → option_or (option_or o (release_to s (d ∷ []))) (release_to s rest) ≡ option_or o (release_to s (d ∷ rest))
or_next (Some r) s d rest = refl
or_next None s d rest = by (same s d.subscriber)
  where
    by : (b : Bool) → option_or (cond b (Some d.release) None) (release_to s rest) ≡ cond b (Some d.release) (release_to s rest)
    by true = refl
    by false = refl

-- one more is in the map
pub map_next : (s : Bytes) (due : List Due) (i : ℕ) (d : Due) (before after : Option ℕ) → i < length due → d ≡ get_or due i d → after ≡ option_or before (release_to s (d ∷ []))
    → option_or before (release_to s (drop i due)) ≡ release_to s due → option_or after (release_to s (drop (i + 1) due)) ≡ release_to s due
map_next s due i d before after lt is now all =
    ap (λ o. option_or o (release_to s (drop (i + 1) due))) now
    ∙ or_next before s d (drop (i + 1) due)
    ∙ sym (ap (option_or before) (at_drop_more (release_to s) due i d lt ∙ rw (← is) refl))
    ∙ all
