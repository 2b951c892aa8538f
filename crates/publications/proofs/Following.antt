-- What stands of an item behind a correction, and behind what takes it back.
use Rattle.std.proofs.Common.{◌≡◌, ℕ, ◌≤◌, max, min, ◌==◌, ◌&&◌, ◌||◌, Bool, true, false, cond, List, [], ◌∷◌, ◌++◌, Option, Some, None, refl, sym, ap, ◌∙◌, subst, arith}
use Rattle.std.specs.Prelude.{nat_le, is_some, unwrap_or, Result, Ok, Err, IfOk}
use Rattle.std.proofs.lemmas.Bool.{false≢true, eq-eqb}
use Rattle.std.proofs.lemmas.Bool.Decides.{nat_tests}
use Rattle.std.specs.Option.{option_map}
use Rattle.news_types.specs.declared.query.Due.{Due}
use Rattle.news_types.specs.Names.{Bytes, same, is_in}
use Rattle.news_types.specs.Due.{Pub, is_first_of, standing_first, release_to, is_due, is_by, had, had_by, latest, given_by, left_behind, taken_back}
use Rattle.news_types.proofs.Members.{same_is}
use Rattle.publications.specs.declared.table.Published.{Published}
use Rattle.publications.specs.declared.table.OfItem.{OfItem}
use Rattle.publications.specs.Keeps.{First, Tells, shown, first_of, shown_first, subscribers_in, is_given}
use Rattle.publications.specs.declared.change.Step.{Step}
use Rattle.publications.specs.declared.change.PublicationChange.{PublicationChange}
use Rattle.publications.specs.Steps.{Leads, IsFor, Publishes}
use Rattle.publications.specs.Later.{is_there, put_new, with_new, Corrects, TakesBack}
use Rattle.publications.proofs.Firsts.{none_by, none_latest}

self_item : (i : ℕ) → (i == i) ≡ true
self_item i = eq-eqb i i refl

or_false : (a : Bool) → (a || false) ≡ a
or_false true = refl
or_false false = refl

or_turned : (a b : Bool) → (a || b) ≡ (b || a)
or_turned true true = refl
or_turned true false = refl
or_turned false true = refl
or_turned false false = refl

-- ---- lists of what is due

there_is : (s : Bytes) (due : List Due) → is_there s due ≡ is_in s (subscribers_in due)
there_is s [] = refl
there_is s (d ∷ due) = ap (λ b. same s d.subscriber || b) (there_is s due)

pub there_more : (s : Bytes) (d : Due) (due : List Due) → is_there s (due ++ d ∷ []) ≡ (is_there s due || same s d.subscriber)
there_more s d [] = or_false (same s d.subscriber)
there_more s d (e ∷ due) = by (same s e.subscriber) (there_more s d due)
  where
    by : (b : Bool) → is_there s (due ++ d ∷ []) ≡ (is_there s due || same s d.subscriber) → (b || is_there s (due ++ d ∷ [])) ≡ ((b || is_there s due) || same s d.subscriber)
    by true rest = refl
    by false rest = rest

given_more : (m : ℕ) (s : Bytes) (d : Due) (due : List Due) → is_given m s (due ++ d ∷ []) ≡ (is_given m s due || (same s d.subscriber && nat_le d.release m))
given_more m s d [] = or_false _
given_more m s d (e ∷ due) = by (same s e.subscriber && nat_le e.release m) (given_more m s d due)
  where
    by : (b : Bool) → is_given m s (due ++ d ∷ []) ≡ (is_given m s due || (same s d.subscriber && nat_le d.release m)) → (b || is_given m s (due ++ d ∷ [])) ≡ ((b || is_given m s due) || (same s d.subscriber && nat_le d.release m))
    by true rest = refl
    by false rest = rest

-- who is not there was given nothing
none_there : (m : ℕ) (s : Bytes) (due : List Due) → is_there s due ≡ false → is_given m s due ≡ false
none_there m s [] none = refl
none_there m s (d ∷ due) none = by (same s d.subscriber) none (none_there m s due)
  where
    by : (b : Bool) → (b || is_there s due) ≡ false → (is_there s due ≡ false → is_given m s due ≡ false) → ((b && nat_le d.release m) || is_given m s due) ≡ false
    by true absent rest = absurd (false≢true (sym absent))
    by false absent rest = rest absent

-- ---- with what is new

pub put_there : (s : Bytes) (all : List Due) (d : Due) → is_there s (put_new all d) ≡ (is_there s all || same s d.subscriber)
put_there s all d = by (is_there d.subscriber all) refl
  where
    old : (b : Bool) → same s d.subscriber ≡ b → is_there d.subscriber all ≡ true → is_there s all ≡ (is_there s all || b)
    old true alike is = let here : is_there s all ≡ true = ap (λ t. is_there t all) (same_is s d.subscriber alike) ∙ is in rw here refl
    old false other is = sym (or_false (is_there s all))

    by : (b : Bool) → is_there d.subscriber all ≡ b → is_there s (cond b all (all ++ d ∷ [])) ≡ (is_there s all || same s d.subscriber)
    by true is = old (same s d.subscriber) refl is
    by false is = there_more s d all

with_there : (s : Bytes) (due all : List Due) → is_there s (with_new all due) ≡ (is_there s all || is_some (release_to s due))
with_there s [] all = sym (or_false (is_there s all))
with_there s (d ∷ due) all = with_there s due (put_new all d) ∙ ap (λ b. b || is_some (release_to s due)) (put_there s all d) ∙ by (same s d.subscriber) (is_there s all)
  where
    by : (b a : Bool) → ((a || b) || is_some (release_to s due)) ≡ (a || is_some (cond b (Some d.release) (release_to s due)))
    by true true = refl
    by true false = refl
    by false true = refl
    by false false = refl

put_given : (m : ℕ) (s : Bytes) (all : List Due) (d : Due) → is_given m s (put_new all d) ≡ cond (is_there s all) (is_given m s all) (same s d.subscriber && nat_le d.release m)
put_given m s all d = by (is_there d.subscriber all) (is_there s all) (same s d.subscriber) refl refl refl
  where
    by : (a b c : Bool) → is_there d.subscriber all ≡ a → is_there s all ≡ b → same s d.subscriber ≡ c → is_given m s (cond a all (all ++ d ∷ [])) ≡ cond b (is_given m s all) (c && nat_le d.release m)
    by true true c is here alike = refl
    by true false true is here alike = absurd (false≢true (sym here ∙ ap (λ t. is_there t all) (same_is s d.subscriber alike) ∙ is))
    by true false false is here alike = none_there m s all here
    by false true true is here alike = absurd (false≢true (sym is ∙ ap (λ t. is_there t all) (sym (same_is s d.subscriber alike)) ∙ here))
    by false true false is here alike = given_more m s d all ∙ rw alike (or_false _)
    by false false c is here alike = given_more m s d all ∙ rw (none_there m s all here, alike) refl

with_given : (m : ℕ) (s : Bytes) (due all : List Due) → is_given m s (with_new all due) ≡ cond (is_there s all) (is_given m s all) (is_by m (release_to s due))
with_given m s [] all = by (is_there s all) refl
  where
    by : (b : Bool) → is_there s all ≡ b → is_given m s all ≡ cond b (is_given m s all) false
    by true is = refl
    by false is = none_there m s all is
with_given m s (d ∷ due) all =
    with_given m s due (put_new all d)
    ∙ ap (λ b. cond b (is_given m s (put_new all d)) (is_by m (release_to s due))) (put_there s all d)
    ∙ ap (λ x. cond (is_there s all || same s d.subscriber) x (is_by m (release_to s due))) (put_given m s all d)
    ∙ by (is_there s all) (same s d.subscriber)
  where
    by : (b c : Bool) → cond (b || c) (cond b (is_given m s all) (c && nat_le d.release m)) (is_by m (release_to s due)) ≡ cond b (is_given m s all) (is_by m (cond c (Some d.release) (release_to s due)))
    by true c = refl
    by false true = refl
    by false false = refl

-- ---- what was due to somebody was released by the latest release

late_had : (m i : ℕ) (s : Bytes) (ps : List Pub) → had ps i s ≡ true → latest ps i s ≤ m → had_by m ps i s ≡ true
late_had m i s [] some le = absurd (false≢true some)
late_had m i s (p ∷ ps) some le = by (p.item == i) (release_to s p.due) some le (late_had m i s ps)
  where
    by : (b : Bool) (o : Option ℕ) → ((b && is_some o) || had ps i s) ≡ true → cond b (max (unwrap_or o 0) (latest ps i s)) (latest ps i s) ≤ m → (had ps i s ≡ true → latest ps i s ≤ m → had_by m ps i s ≡ true)
        → ((b && is_by m o) || had_by m ps i s) ≡ true
    by false o some le rest = rest some le
    by true None some le rest = rest some (omega (arith, le))
    by true (Some r) some le rest = let early : nat_le r m ≡ true = released r (latest ps i s) le in rw early refl
      where
        released : (r l : ℕ) → max r l ≤ m → nat_le r m ≡ true
        released r l le = let less : r ≤ m = omega (arith, le) in grind (arith, nat_tests, less)

-- ---- a correction

module _ (p : Pub) (st : List Pub) (due before latest_due : List Due) (does : Corrects p due st) (tells : Tells before latest_due st p.item) where
  i : ℕ
  i = p.item

  corrected_had : (s : Bytes) → is_in s (subscribers_in (with_new before due)) ≡ (((p.item == p.item) && is_due s p) || had st p.item s)
  corrected_had s =
      sym (there_is s (with_new before due)) ∙ with_there s due before
      ∙ ap (λ b. b || is_some (release_to s due)) (there_is s before ∙ tells.had_one s)
      ∙ ap (λ o. had st p.item s || is_some o) (does.goes.due_to s)
      ∙ or_turned (had st p.item s) (is_due s p)
      ∙ sym (rw (self_item p.item) refl)

  -- it is released no earlier
  no_earlier : (m : ℕ) (s : Bytes) (o : Option ℕ) → release_to s p.due ≡ o → had st p.item s ≡ true → had_by m st p.item s ≡ (is_by m o || had_by m st p.item s)
  no_earlier m s None is some = refl
  no_earlier m s (Some r) is some = by (nat_le r m) refl
    where
      by : (b : Bool) → nat_le r m ≡ b → had_by m st p.item s ≡ (b || had_by m st p.item s)
      by false e = refl
      by true e =
          let behind : latest st p.item s ≤ r = does.late s r is in
          let early : r ≤ m = grind (arith, nat_tests, e) in
          late_had m p.item s st some (omega (arith, behind, early))

  corrected_given : (m : ℕ) (s : Bytes) → is_given m s (with_new before due) ≡ (((p.item == p.item) && is_by m (release_to s p.due)) || had_by m st p.item s)
  corrected_given m s =
      with_given m s due before
      ∙ ap (λ b. cond b (is_given m s before) (is_by m (release_to s due))) (there_is s before ∙ tells.had_one s)
      ∙ by (had st p.item s) refl
      ∙ sym (rw (self_item p.item) refl)
    where
      by : (b : Bool) → had st p.item s ≡ b → cond b (is_given m s before) (is_by m (release_to s due)) ≡ (is_by m (release_to s p.due) || had_by m st p.item s)
      by true some = tells.given m s ∙ no_earlier m s (release_to s p.due) refl some
      by false none = ap (is_by m) (does.goes.due_to s) ∙ sym (rw (none_by m p.item s st none) (or_false _))

  corrected_last : (s : Bytes) → unwrap_or (release_to s due) 0 ≡ cond (p.item == p.item) (max (unwrap_or (release_to s p.due) 0) (latest st p.item s)) (latest st p.item s)
  corrected_last s = ap (λ (o : Option ℕ). unwrap_or o 0) (does.goes.due_to s) ∙ by (release_to s p.due) refl ∙ sym (rw (self_item p.item) refl)
    where
      max_of : (r l : ℕ) → l ≤ r → r ≡ max r l
      max_of r l le = omega (arith, le)

      none : (b : Bool) → had st p.item s ≡ b → release_to s p.due ≡ None → b ≡ false
      none false e is = refl
      none true e is = absurd (false≢true (sym (ap is_some is) ∙ does.reaches s e))

      by : (o : Option ℕ) → release_to s p.due ≡ o → unwrap_or o 0 ≡ max (unwrap_or o 0) (latest st p.item s)
      by (Some r) is = max_of r (latest st p.item s) (does.late s r is)
      by None is = let zero_last : latest st p.item s ≡ 0 = none_latest p.item s st (none (had st p.item s) refl is) in max_of 0 _ (omega (arith, zero_last))

  corrected_told : Tells (with_new before due) due (p ∷ st) p.item
  corrected_told = record { had_one = corrected_had; given = corrected_given; last = corrected_last }

pub corrects : (number : ℕ) (row : Published) (of old : OfItem) (p : Pub) (due : List Due) (ps st : List Pub) → number ≡ p.number → row ≡ shown p → Corrects p due st
    → first_of of ≡ first_of old → of.soonest.items ≡ with_new old.soonest.items due → of.newest.items ≡ due
    → Some (first_of old) ≡ option_map shown_first (standing_first p.item st) → Tells old.soonest.items old.newest.items st p.item → Publishes number row of ps st (p ∷ ps) (p ∷ st)
corrects number row of old p due ps st number_is row_is does first_is soonest_is newest_is first tells = record {
  p = p;
  taken = None;
  is_number = number_is;
  all = refl;
  stands = refl;
  shows = row_is;
  first = ap (λ (f : First). Some f) first_is ∙ first ∙ sym (rw does.goes.kind refl);
  due = subst (λ (l : List Due). Tells of.soonest.items l (p ∷ st) p.item) (sym newest_is)
      (subst (λ (l : List Due). Tells l due (p ∷ st) p.item) (sym soonest_is) (corrected_told p st due old.soonest.items old.newest.items does tells));
}

-- ---- what takes back

-- those whose release has come
pub named_given : (m : ℕ) (s : Bytes) (due : List Due) → is_in s (subscribers_in (given_by m due)) ≡ is_given m s due
named_given m s [] = refl
named_given m s (d ∷ due) = by (nat_le d.release m) (same s d.subscriber) refl (named_given m s due)
  where
    by : (b c : Bool) → same s d.subscriber ≡ c → is_in s (subscribers_in (given_by m due)) ≡ is_given m s due → is_in s (subscribers_in (cond b (d ∷ given_by m due) (given_by m due))) ≡ ((c && b) || is_given m s due)
    by true true is rest = rw is refl
    by true false is rest = rw is rest
    by false true is rest = rest
    by false false is rest = rest

both_le : (r n m : ℕ) → nat_le r m ≡ true → nat_le r n ≡ nat_le r (min n m)
both_le r n m is = grind (arith, nat_tests)

past_le : (r n m : ℕ) → nat_le r m ≡ false → nat_le r (min n m) ≡ false
past_le r n m is = grind (arith, nat_tests)

given_twice : (n m : ℕ) (s : Bytes) (due : List Due) → is_given n s (given_by m due) ≡ is_given (min n m) s due
given_twice n m s [] = refl
given_twice n m s (d ∷ due) = by (nat_le d.release m) refl (given_twice n m s due)
  where
    no : (c : Bool) → (c && false) ≡ false
    no true = refl
    no false = refl

    by : (b : Bool) → nat_le d.release m ≡ b → is_given n s (given_by m due) ≡ is_given (min n m) s due
        → is_given n s (cond b (d ∷ given_by m due) (given_by m due)) ≡ ((same s d.subscriber && nat_le d.release (min n m)) || is_given (min n m) s due)
    by true is rest = rw (both_le d.release n m is, rest) refl
    by false is rest = rw (past_le d.release n m is, no (same s d.subscriber)) rest

first_left : (m i : ℕ) (st : List Pub) → option_map shown_first (standing_first i (taken_back m i st)) ≡ option_map shown_first (standing_first i st)
first_left m i [] = refl
first_left m i (p ∷ st) = by (is_first_of i p) (first_left m i st)
  where
    by : (b : Bool) → option_map shown_first (standing_first i (taken_back m i st)) ≡ option_map shown_first (standing_first i st)
        → option_map shown_first (cond b (Some (left_behind m i p)) (standing_first i (taken_back m i st))) ≡ option_map shown_first (cond b (Some p) (standing_first i st))
    by true rest = refl
    by false rest = rest

module _ (p : Pub) (st : List Pub) (due before latest_due : List Due) (does : TakesBack p due st) (tells : Tells before latest_due st p.item) where
  m : ℕ
  m = p.release

  taken_had : (s : Bytes) → is_in s (subscribers_in (given_by p.release before)) ≡ (((p.item == p.item) && is_due s p) || had (taken_back p.release p.item st) p.item s)
  taken_had s = named_given p.release s before ∙ tells.given p.release s ∙ by (had_by p.release st p.item s) refl ∙ sym (rw (self_item p.item, does.reaches s, does.leaves.had_one s) refl)
    where
      by : (b : Bool) → had_by p.release st p.item s ≡ b → b ≡ (is_some (cond b (Some p.release) None) || b)
      by true e = refl
      by false e = refl

  taken_given : (n : ℕ) (s : Bytes) → is_given n s (given_by p.release before) ≡ (((p.item == p.item) && is_by n (release_to s p.due)) || had_by n (taken_back p.release p.item st) p.item s)
  taken_given n s = given_twice n p.release s before ∙ tells.given (min n p.release) s ∙ by (had_by p.release st p.item s) refl ∙ sym (rw (self_item p.item, does.reaches s, does.leaves.given n s) refl)
    where
      come : (c : Bool) → nat_le p.release n ≡ c → had_by p.release st p.item s ≡ true → had_by (min n p.release) st p.item s ≡ (c || had_by (min n p.release) st p.item s)
      come false e some = refl
      come true e some =
          let early : p.release ≤ n = grind (arith, nat_tests, e) in
          let least : min n p.release ≡ p.release = omega (arith, early) in
          ap (λ k. had_by k st p.item s) least ∙ some

      by : (b : Bool) → had_by p.release st p.item s ≡ b → had_by (min n p.release) st p.item s ≡ (is_by n (cond b (Some p.release) None) || had_by (min n p.release) st p.item s)
      by true e = come (nat_le p.release n) refl e
      by false e = refl

  taken_last : (s : Bytes) → unwrap_or (release_to s due) 0 ≡ cond (p.item == p.item) (max (unwrap_or (release_to s p.due) 0) (latest (taken_back p.release p.item st) p.item s)) (latest (taken_back p.release p.item st) p.item s)
  taken_last s = ap (λ (o : Option ℕ). unwrap_or o 0) (does.goes.due_to s ∙ does.reaches s) ∙ by (had_by p.release st p.item s) refl ∙ sym (rw (self_item p.item, does.reaches s) refl)
    where
      max_of : (r l : ℕ) → l ≤ r → r ≡ max r l
      max_of r l le = omega (arith, le)

      by : (b : Bool) → had_by p.release st p.item s ≡ b → unwrap_or (cond b (Some p.release) None) 0 ≡ max (unwrap_or (cond b (Some p.release) None) 0) (latest (taken_back p.release p.item st) p.item s)
      by true e = max_of p.release _ (does.leaves.last s)
      by false e =
          let zero_last : latest (taken_back p.release p.item st) p.item s ≡ 0 = none_latest p.item s (taken_back p.release p.item st) (does.leaves.had_one s ∙ e) in
          max_of 0 _ (omega (arith, zero_last))

  taken_told : Tells (given_by p.release before) due (p ∷ taken_back p.release p.item st) p.item
  taken_told = record { had_one = taken_had; given = taken_given; last = taken_last }

pub takes_back : (number : ℕ) (row : Published) (of old : OfItem) (p : Pub) (due : List Due) (ps st : List Pub) → number ≡ p.number → row ≡ shown p → TakesBack p due st
    → first_of of ≡ first_of old → of.soonest.items ≡ given_by row.release old.soonest.items → of.newest.items ≡ due
    → Some (first_of old) ≡ option_map shown_first (standing_first p.item st) → Tells old.soonest.items old.newest.items st p.item → Publishes number row of ps st (p ∷ ps) (p ∷ taken_back p.release p.item st)
takes_back number row of old p due ps st number_is row_is does first_is soonest_is newest_is first tells =
    let at : row.release ≡ p.release = ap (λ (r : Published). r.release) row_is in
    record {
      p = p;
      taken = Some p.release;
      is_number = number_is;
      all = refl;
      stands = refl;
      shows = row_is;
      first = ap (λ (f : First). Some f) first_is ∙ first ∙ sym (first_left p.release p.item st) ∙ sym (rw does.goes.kind refl);
      due = subst (λ (l : List Due). Tells of.soonest.items l (p ∷ taken_back p.release p.item st) p.item) (sym newest_is)
          (subst (λ (l : List Due). Tells l due (p ∷ taken_back p.release p.item st) p.item) (sym (soonest_is ∙ ap (λ k. given_by k old.soonest.items) at)) (taken_told p st due old.soonest.items old.newest.items does tells));
    }

-- ---- what is prepared

pub step_leads : {E : Type 0} (r : Result PublicationChange E) (step : Step) (ps st after_ps after_st : List Pub) → IfOk r (λ change. change.step ≡ step) → Leads step ps st after_ps after_st → IfOk r (λ change. IsFor change ps st after_ps after_st)
step_leads (Ok change) step ps st after_ps after_st is leads = record { leads = subst (λ s. Leads s ps st after_ps after_st) (sym is) leads }
step_leads (Err e) step ps st after_ps after_st is leads = tt
