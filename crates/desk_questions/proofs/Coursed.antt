-- What becomes of a publication that was made due.
use Rattle.std.proofs.Common.{◌≡◌, ◌==◌, ℕ, ◌<◌, ◌≤◌, Bool, true, false, List, [], ◌∷◌, ◌++◌, length, Option, Some, None, refl, sym, ap, ◌∙◌, arith, length-append}
use Rattle.std.specs.Prelude.{not, nat_lt, is_some, option_map, if◌then◌else◌, cond}
use Rattle.std.proofs.lemmas.Bool.Decides.{nat_tests}
use Rattle.news_types.specs.Names.{Bytes, is_in}
use Rattle.news_types.specs.History.{History, moment}
use Rattle.news_types.specs.Members.{Each}
use Rattle.news_types.specs.Products.{subscribers}
use Rattle.news_types.specs.Due.{Pub, release_to, is_by, given_by, left_behind}
use Rattle.news_types.specs.Publications.{made, pubs, standing, kept_by}
use Rattle.news_types.proofs.Members.{each_append}
use Rattle.news_types.proofs.Bounds.{new_pubs}
use Rattle.news_types.proofs.Dues.{IsFair, fair_left, new_are_fair, release_given, each_kept}
use Rattle.news_types.proofs.Numbering.{CountsDown, NumberTo, pubs_count_down, standing_numbers}
use Rattle.news_types.proofs.Subscribed.{IsToKnown, listed_is, standing_are_known}
use Rattle.feed_reasons.specs.declared.course.Course.TheVariants.{TakenBack, Waits}
use Rattle.feed_reasons.specs.Courses.{numbered, due_of, course, course_by, place, sent_as}
use Rattle.desk_records.specs.declared.dues.DueFact.{DueFact}
use Rattle.desk_records.specs.Dues.{is_release, fact_of, due_fact}
use Rattle.desk_questions.proofs.Numbers.{eq_self, eq_is, eq_other, each_both, each_front, IsFound, all_found}

-- ---- what stands for a subscriber stands as it was made

pub record IsAsMade (ps : List Pub) (p : Pub) : Type 0 where
  pub fair : IsFair p
  pub made : (s : Bytes) (t : ℕ) → release_to s p.due ≡ Some t → due_of s (numbered p.number ps) ≡ Some t

some_given : (b : Bool) (r : Option ℕ) (t : ℕ) → cond b r None ≡ Some t → r ≡ Some t
some_given true r t is = is
some_given false r t is = absurd cc

left : (ps : List Pub) (m i : ℕ) (p : Pub) → IsAsMade ps p → IsAsMade ps (left_behind m i p)
left ps m i p as_made = record {
  fair = fair_left m i p as_made.fair;
  made = λ s t is. as_made.made s t (before s t (p.item == i) is);
}
  where
    before : (s : Bytes) (t : ℕ) (b : Bool) → release_to s (if b then given_by m p.due else p.due) ≡ Some t → release_to s p.due ≡ Some t
    before s t true is =
        let agree = as_made.fair.agree in
        some_given (is_by m (release_to s p.due)) (release_to s p.due) t (sym (release_given agree.0 m s p.due agree.1) ∙ is)
    before s t false is = is

-- those before are found as without what comes behind them
behind : (new ps : List Pub) (n : ℕ) → CountsDown (new ++ ps) → n ≤ length ps → numbered n (new ++ ps) ≡ numbered n ps
behind [] ps n down le = refl
behind (p ∷ new) ps n down le =
    let other : (p.number == n) ≡ false = eq_other p.number n (omega (arith, down.0, length-append new ps)) in
    ap (λ (b : Bool). if b then Some p else numbered n (new ++ ps)) other ∙ behind new ps n down.1 le

fresh : (new ps : List Pub) → CountsDown (new ++ ps) → Each IsFair new → Each (IsAsMade (new ++ ps)) new
fresh new ps down fair =
    each_both IsFair (IsFound (new ++ ps)) (IsAsMade (new ++ ps)) new
    (λ p is_fair found. record { fair = is_fair; made = λ s t is. ap (due_of s) found ∙ is })
    fair (each_front (IsFound (new ++ ps)) new ps (all_found (new ++ ps) down))

older : (new ps qs : List Pub) → CountsDown (new ++ ps) → Each (NumberTo (length ps)) qs → Each (IsAsMade ps) qs → Each (IsAsMade (new ++ ps)) qs
older new ps qs down low all =
    each_both (NumberTo (length ps)) (IsAsMade ps) (IsAsMade (new ++ ps)) qs
    (λ q to as_made. record { fair = as_made.fair; made = λ s t is. ap (due_of s) (behind new ps q.number down to.1) ∙ as_made.made s t is })
    low all

stand_as_made : (h : History) → Each (IsAsMade (pubs h)) (standing h)
stand_as_made [] = tt
stand_as_made (e ∷ h) =
    let down = pubs_count_down (e ∷ h) in
    each_append (IsAsMade (pubs (e ∷ h))) (new_pubs e h) (kept_by e.moment e.act (standing h))
    (fresh (new_pubs e h) (pubs h) down (new_are_fair h (made h) e.moment e.act))
    (older (new_pubs e h) (pubs h) (kept_by e.moment e.act (standing h)) down
    (each_kept (NumberTo (length (pubs h))) (λ m i p to. to) e.moment e.act (standing h) (standing_numbers h))
    (each_kept (IsAsMade (pubs h)) (left (pubs h)) e.moment e.act (standing h) (stand_as_made h)))

-- one that is due is one of the list
pub record IsDueIn (P : Pub → Type 0) (n : ℕ) (s : Bytes) (t : ℕ) : Type 0 where
  pub p : Pub
  pub holds : P p
  pub number : p.number ≡ n
  pub due : release_to s p.due ≡ Some t

due_in : (P : Pub → Type 0) (n : ℕ) (s : Bytes) (t : ℕ) (ps : List Pub) → Each P ps → due_of s (numbered n ps) ≡ Some t → IsDueIn P n s t
due_in P n s t [] all is = absurd cc
due_in P n s t (p ∷ ps) all is = by (p.number == n) refl (λ later. due_in P n s t ps all.1 later) is
  where
    by : (b : Bool) → (p.number == n) ≡ b → (due_of s (numbered n ps) ≡ Some t → IsDueIn P n s t) → due_of s (if b then Some p else numbered n ps) ≡ Some t → IsDueIn P n s t
    by true same rest is = record { p = p; holds = all.0; number = eq_is p.number n same; due = is }
    by false other rest is = rest is

module _ (h : History) (n : ℕ) (s : Bytes) where
  -- the release with which it stands is that with which it was made
  left_is_made : (t : ℕ) → due_of s (numbered n (standing h)) ≡ Some t → due_of s (numbered n (pubs h)) ≡ Some t
  left_is_made t is =
      let found = due_in (IsAsMade (pubs h)) n s t (standing h) (stand_as_made h) is in
      ap (λ (k : ℕ). due_of s (numbered k (pubs h))) (sym found.number) ∙ found.holds.made s t found.due

  -- one to whom something is due is there
  pub due_known : (t : ℕ) → due_of s (numbered n (standing h)) ≡ Some t → is_in s (subscribers h) ≡ true
  due_known t is =
      let found = due_in (IsToKnown h) n s t (standing h) (standing_are_known h) is in
      listed_is h s ∙ found.holds s (ap is_some found.due)

-- ---- by what is kept of it

-- the release with which it was made due, and whether that stands
pub record IsMade (due left : Option ℕ) (fact : DueFact) : Type 0 where
  pub made : due ≡ Some fact.release
  pub stands : fact.stands ≡ is_release fact.release left

made_due : (due left : Option ℕ) (fact : DueFact) → Some fact ≡ option_map (fact_of left) due → IsMade due left fact
made_due None left fact is = absurd cc
made_due (Some r) left fact is =
    let same : fact ≡ fact_of left r = cc in
    let release : r ≡ fact.release = ap (λ (f : DueFact). f.release) (sym same) in
    record {
      made = ap (λ (x : ℕ). Some x) release;
      stands = ap (λ (f : DueFact). f.stands) same ∙ ap (λ (x : ℕ). is_release x left) release;
    }

there : (b : Bool) → not b ≡ false → b ≡ true
there true is = refl
there false is = absurd cc

gone : (b : Bool) → not b ≡ true → b ≡ false
gone true is = absurd cc
gone false is = refl

early : (m release : ℕ) → m < release → nat_lt m release ≡ true
early m release lt = grind (arith, nat_tests)

late : (m release : ℕ) → release ≤ m → nat_lt m release ≡ false
late m release le = grind (arith, nat_tests)

module _ (h : History) (n : ℕ) (s : Bytes) (fact : DueFact) (is : Some fact ≡ due_fact h n s) where
  pub facts : IsMade (due_of s (numbered n (pubs h))) (due_of s (numbered n (standing h))) fact
  facts = made_due (due_of s (numbered n (pubs h))) (due_of s (numbered n (standing h))) fact is

  pub taken_back : not fact.stands ≡ true → TakenBack ≡ course h n s
  taken_back back = by (due_of s (numbered n (standing h))) refl
    where
      by : (o : Option ℕ) → due_of s (numbered n (standing h)) ≡ o → TakenBack ≡ course h n s
      by None none = sym (λ k. course_by h s n (facts.made k) (none k))
      by (Some t) some =
          let same : Some t ≡ Some fact.release = sym (left_is_made h n s t some) ∙ facts.made in
          let release : t ≡ fact.release = cc in
          let stands : fact.stands ≡ true = facts.stands ∙ ap (is_release fact.release) some ∙ ap (λ (x : ℕ). x == fact.release) release ∙ eq_self fact.release in
          let fails : fact.stands ≡ false = gone fact.stands back in
          absurd cc

  still_stands : fact.stands ≡ true → due_of s (numbered n (standing h)) ≡ Some fact.release
  still_stands holds = by (due_of s (numbered n (standing h))) refl
    where
      by : (o : Option ℕ) → due_of s (numbered n (standing h)) ≡ o → due_of s (numbered n (standing h)) ≡ Some fact.release
      by None none =
          let fails : fact.stands ≡ false = facts.stands ∙ ap (is_release fact.release) none in
          absurd cc
      by (Some t) some =
          let tested : (t == fact.release) ≡ true = sym (facts.stands ∙ ap (is_release fact.release) some) ∙ holds in
          some ∙ ap (λ (x : ℕ). Some x) (eq_is t fact.release tested)

  pub stands_still : not fact.stands ≡ false → due_of s (numbered n (standing h)) ≡ Some fact.release
  stands_still stands = still_stands (there fact.stands stands)

  -- it waits or was sent
  coursed : fact.stands ≡ true → course h n s ≡ (if nat_lt (moment h) fact.release then Waits fact.release else sent_as h s (place h s n))
  coursed stands = λ k. course_by h s n (facts.made k) (still_stands stands k)

  pub waits : not fact.stands ≡ false → moment h < fact.release → Waits fact.release ≡ course h n s
  waits stands lt =
      sym (coursed (there fact.stands stands) ∙ ap (λ (b : Bool). if b then Waits fact.release else sent_as h s (place h s n)) (early (moment h) fact.release lt))

  pub was_sent : not fact.stands ≡ false → fact.release ≤ moment h → sent_as h s (place h s n) ≡ course h n s
  was_sent stands le =
      sym (coursed (there fact.stands stands) ∙ ap (λ (b : Bool). if b then Waits fact.release else sent_as h s (place h s n)) (late (moment h) fact.release le))

-- nothing is kept of one that was not made due
pub not_made : (h : History) (n : ℕ) (s : Bytes) → None ≡ due_fact h n s → due_of s (numbered n (pubs h)) ≡ None
not_made h n s is = by (due_of s (numbered n (pubs h))) is
  where
    by : (made : Option ℕ) → None ≡ option_map (fact_of (due_of s (numbered n (standing h)))) made → made ≡ None
    by None is = refl
    by (Some t) is = absurd cc
