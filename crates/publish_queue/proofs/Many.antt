-- Several feeds, before and after a call.
use Rattle.std.proofs.Common.{◌≡◌, ℕ, zero, suc, ◌+◌, ◌<◌, ◌≤◌, Bool, true, false, ◌||◌, List, [], ◌∷◌, ◌++◌, length, map, get_or, set, take, Some, None, cond, refl, sym, ap, subst, ◌∙◌, arith, ◌⊎◌, inl, inr}
use mathlib.Core.Bool.{true≢false}
use Rattle.std.proofs.lemmas.Bool.{cases_lt, cases_eq}
use Rattle.std.proofs.lemmas.List.{get_or-set_other, get_or-set_same, length-set, get_or_default, get_or-map, length-map, map-append, take_more}
use Rattle.std.proofs.lemmas.List.Folds.{list_any-append}
use Rattle.std.specs.List.{All, HoldsAt}
use Rattle.std.specs.Cmp.Lexicographic.{nat_list_eq_equiv}
use Rattle.news_types.specs.declared.query.Due.{Due}
use Rattle.news_types.specs.Names.{Bytes, same, is_in, AreInOrder}
use Rattle.news_types.specs.Due.{release_to}
use Rattle.news_types.proofs.Members.{same_self, same_is, some_is, none_some}
use Rattle.publish_queue.specs.declared.feed.Feed.{Feed}
use Rattle.publish_queue.specs.declared.queue.Feeds.{Feeds}
use Rattle.publish_queue.specs.Order.{Differ}
use Rattle.publish_queue.specs.Steps.{SameDelivery, IsAlike, FitsOneMore}
use Rattle.publish_queue.specs.Many.{Sets, EachGoes, OneGoes, Spread, IsRoomy, IsSame, name_of, names_in, subscriber_in}
use Rattle.publish_queue.proofs.ByName.{present, apart}
use Rattle.publish_queue.proofs.Fair.{not_in}

-- ---- one feed

-- what was read at a place is there, whatever stands for what is not
pub at_is : (fs : List Feed) (i : ℕ) (d f : Feed) → i < length fs → f ≡ get_or fs i f → get_or fs i d ≡ f
at_is fs i d f lt is = get_or_default fs i d f lt ∙ sym is

pub sets : (R : Feed → Feed → Type 0) (fs : List Feed) (i : ℕ) (f g : Feed) → i < length fs → f ≡ get_or fs i f → R f g → Sets R i fs (set fs i g)
sets R fs i f g lt is r = record {
  long = length-set fs i g;
  here = λ d. rw (get_or-set_same fs i g d lt, at_is fs i d f lt is) r;
  there = λ k d other. get_or-set_other fs i k g d other;
}

-- one step behind another
pub sets_then : (R S T : Feed → Feed → Type 0) (i : ℕ) (olds mids news : List Feed) → Sets R i olds mids → Sets S i mids news → ((f g h : Feed) → R f g → S g h → T f h) → Sets T i olds news
sets_then R S T i olds mids news r s both = record {
  long = s.long ∙ r.long;
  here = λ d. both _ _ _ (r.here d) (s.here d);
  there = λ k d other. s.there k d other ∙ r.there k d other;
}

-- a feed that may stay as it is
pub sets_none : (R : Feed → Feed → Type 0) (i : ℕ) (fs : List Feed) → ((d : Feed) → R (get_or fs i d) (get_or fs i d)) → Sets R i fs fs
sets_none R i fs same = record { long = refl; here = same; there = λ k d other. refl }

-- ---- each feed

pub same_delivery : (f : Feed) → SameDelivery f f
same_delivery f = record { name = refl; delivery = refl }

pub alike : (f : Feed) → IsAlike f f
alike f = record { delivery = same_delivery f; row = record { numbers = refl; releases = refl }; waiting = refl }

pub alike_then : (f g h : Feed) → IsAlike f g → IsAlike g h → IsAlike f h
alike_then f g h a b = record {
  delivery = record {
    name = b.delivery.name ∙ a.delivery.name;
    delivery = b.delivery.delivery ∙ a.delivery.delivery;
  };
  row = record { numbers = b.row.numbers ∙ a.row.numbers; releases = b.row.releases ∙ a.row.releases };
  waiting = b.waiting ∙ a.waiting;
}

pub same_feed : (f : Feed) → IsSame f f
same_feed f = record { alike = alike f; turn = refl }

pub each_same : (fs : List Feed) → EachGoes IsSame fs fs
each_same fs = record { long = refl; each = λ k d lt. same_feed (get_or fs k d) }

same_then : (f g h : Feed) → IsSame f g → IsSame g h → IsSame f h
same_then f g h a b = record { alike = alike_then f g h a.alike b.alike; turn = b.turn ∙ a.turn }

pub each_then_sets : (i : ℕ) (olds mids news : List Feed) → EachGoes IsSame olds mids → Sets IsSame i mids news → EachGoes IsSame olds news
each_then_sets i olds mids news e s = record {
  long = s.long ∙ e.long;
  each = λ k d less. by k d less (cases_eq k i);
}
  where
    by : (k : ℕ) (d : Feed) → k < length olds → (k ≡ i) ⊎ (k ≡ i → ⊥) → IsSame (get_or olds k d) (get_or news k d)
    by k d less (inl is) = same_then _ (get_or mids k d) _ (e.each k d less) (rw is (s.here d))
    by k d less (inr other) = rw (s.there k d other) (e.each k d less)

pub names_by : (olds news : List Feed) → length news ≡ length olds → ((k : ℕ) (d : Feed) → k < length olds → name_of (get_or news k d) ≡ name_of (get_or olds k d)) → map name_of news ≡ map name_of olds
names_by [] [] long each = refl
names_by [] (g ∷ gs) long each = absurd (omega (arith, long))
names_by (f ∷ fs) [] long each = absurd (omega (arith, long))
names_by (f ∷ fs) (g ∷ gs) long each =
    let first : name_of g ≡ name_of f = each 0 f (omega arith) in
    let rest : map name_of gs ≡ map name_of fs = names_by fs gs (omega (arith, long)) (λ k d lt. each (suc k) d (omega (arith, lt))) in
    rw (first, rest) refl

pub each_names : (R : Feed → Feed → Type 0) (olds news : List Feed) → EachGoes R olds news → ((f g : Feed) → R f g → name_of g ≡ name_of f) → map name_of news ≡ map name_of olds
each_names R olds news e name = names_by olds news e.long (λ k d lt. name (get_or olds k d) (get_or news k d) (e.each k d lt))

-- ---- a loop over each feed

-- the feeds below i are changed by R, and the others are as they were
pub record Walked (R : Feed → Feed → Type 0) (i : ℕ) (olds news : List Feed) : Type 0 where
  pub long : length news ≡ length olds
  pub done : (k : ℕ) (d : Feed) → k < i → R (get_or olds k d) (get_or news k d)
  pub rest : (k : ℕ) (d : Feed) → i ≤ k → get_or news k d ≡ get_or olds k d

pub walked_step : (R : Feed → Feed → Type 0) (i : ℕ) (olds news : List Feed) (y e : Feed) → Walked R i olds news → i < length news → R (get_or news i e) y → Walked R (i + 1) olds (set news i y)
walked_step R i olds news y e w lt here = record {
  long = length-set news i y ∙ w.long;
  done = λ k d below. elim (cases_lt k i) [
    | inl less ↦ let other : k ≡ i → ⊥ = omega arith in rw (get_or-set_other news i k y d other) (w.done k d less)
    | inr more ↦
        let is : k ≡ i = omega arith in
        let P : ℕ → Type 0 = λ j. R (get_or olds j d) (get_or (set news i y) j d) in
        let at : P i = rw (get_or-set_same news i y d lt, ← w.rest i d (omega arith), get_or_default news i d e lt) here in
        subst P (sym is) at
  ];
  rest = λ k d above. let other : k ≡ i → ⊥ = omega arith in get_or-set_other news i k y d other ∙ w.rest k d (omega arith);
}

-- the feed at i is changed
pub walked_sets : (R : Feed → Feed → Type 0) (i : ℕ) (olds mids news : List Feed) → Walked R i olds mids → Sets R i mids news → Walked R (i + 1) olds news
walked_sets R i olds mids news w s = record {
  long = s.long ∙ w.long;
  done = λ k d below. elim (cases_lt k i) [
    | inl less ↦ let other : k ≡ i → ⊥ = omega arith in rw (s.there k d other) (w.done k d less)
    | inr more ↦
        let is : k ≡ i = omega arith in
        let P : ℕ → Type 0 = λ j. R (get_or olds j d) (get_or news j d) in
        let at : P i = rw (← w.rest i d (omega arith)) (s.here d) in
        subst P (sym is) at
  ];
  rest = λ k d above. let other : k ≡ i → ⊥ = omega arith in s.there k d other ∙ w.rest k d (omega arith);
}

pub walked_none : (R : Feed → Feed → Type 0) (fs : List Feed) → Walked R 0 fs fs
walked_none R fs = record { long = refl; done = λ k d lt. absurd (omega (arith, lt)); rest = λ k d le. refl }

pub walked_all : (R : Feed → Feed → Type 0) (i : ℕ) (olds news : List Feed) → Walked R i olds news → length olds ≤ i → EachGoes R olds news
walked_all R i olds news w all = record { long = w.long; each = λ k d lt. w.done k d (omega arith) }

-- ---- the feeds of some subscribers

turned : (s t : Bytes) → same s t ≡ same t s
turned s t = nat_list_eq_equiv.symm s t

or_false : (b : Bool) → (b || false) ≡ b
or_false true = refl
or_false false = refl

-- one more name
pub in_more : (s t : Bytes) (due : List Bytes) → is_in s (due ++ t ∷ []) ≡ (is_in s due || same s t)
in_more s t due = list_any-append (same s) due (t ∷ []) ∙ ap (λ b. is_in s due || b) (or_false (same s t))

pub name_at : (fs : List Feed) (k : ℕ) (d : Feed) → k < length fs → get_or (map name_of fs) k (name_of d) ≡ name_of (get_or fs k d)
name_at fs k d lt = get_or-map name_of fs k d (name_of d) lt

-- what is not among the names is none of them
pub not_named : (s : Bytes) (ns : List Bytes) (k : ℕ) (d : Bytes) → is_in s ns ≡ false → k < length ns → same (get_or ns k d) s ≡ false
not_named s ns k d none lt = by (same (get_or ns k d) s) refl
  where
    by : (b : Bool) → same (get_or ns k d) s ≡ b → b ≡ false
    by false e = refl
    by true e = absurd (true≢false (sym (present s ns k d lt (same_is (get_or ns k d) s e)) ∙ none))

-- another place has another name
not_here : (ns : List Bytes) (i k : ℕ) (d : Bytes) → AreInOrder ns → i < length ns → k < length ns → (k ≡ i → ⊥) → same (get_or ns k d) (get_or ns i d) ≡ false
not_here ns i k d up at lt other = by (same (get_or ns k d) (get_or ns i d)) refl
  where
    two : get_or ns k d ≡ get_or ns i d → ⊥
    two e = elim (cases_lt k i) [ inl less ↦ apart ns k i d up less at e | inr more ↦ apart ns i k d up (omega arith) lt (sym e) ]

    by : (b : Bool) → same (get_or ns k d) (get_or ns i d) ≡ b → b ≡ false
    by false e = refl
    by true e = absurd (two (same_is _ _ e))

-- a name is not among those before it
pub differ_take : (due : List Bytes) (k : ℕ) (d : Bytes) → Differ due → k < length due → is_in (get_or due k d) (take k due) ≡ false
differ_take [] k d differ lt = absurd (omega (arith, lt))
differ_take (s ∷ ss) zero d differ lt = refl
differ_take (s ∷ ss) (suc k) d differ lt =
    let apart : same (get_or ss k d) s ≡ false = not_named s ss k d differ.0 (omega (arith, lt)) in
    rw apart (differ_take ss k d differ.1 (omega (arith, lt)))

pub or_true : (a b : Bool) → (a || b) ≡ true → (a ≡ true) ⊎ (b ≡ true)
or_true true b e = inl refl
or_true false b e = inr e

pub none_of : (a b : Bool) → (a || b) ≡ false → (a ≡ false) × (b ≡ false)
none_of true b e = absurd (true≢false e)
none_of false b e = (refl, e)

-- where the feeds are, by their names
pub record Found (names : List Bytes) (fs : List Feed) (i : ℕ) (s : Bytes) : Type 0 where
  pub ascends : AreInOrder names
  pub named : map name_of fs ≡ names
  pub within : i < length fs
  pub is : (d : Bytes) → get_or names i d ≡ s

pub here_named : (names : List Bytes) (fs : List Feed) (i : ℕ) (s : Bytes) (d : Feed) → Found names fs i s → name_of (get_or fs i d) ≡ s
here_named names fs i s d f = sym (name_at fs i d f.within) ∙ ap (λ ns. get_or ns i (name_of d)) f.named ∙ f.is (name_of d)

pub other_named : (names : List Bytes) (fs : List Feed) (i k : ℕ) (s : Bytes) (d : Feed) → Found names fs i s → k < length fs → (k ≡ i → ⊥) → same (name_of (get_or fs k d)) s ≡ false
other_named names fs i k s d f lt other =
    let long : length (map name_of fs) ≡ length fs = length-map fs name_of in
    let up : AreInOrder (map name_of fs) = rw f.named f.ascends in
    ap (λ t. same (name_of (get_or fs k d)) t) (sym (here_named names fs i s d f))
    ∙ ap (λ t. same t (name_of (get_or fs i d))) (sym (name_at fs k d lt))
    ∙ ap (λ t. same (get_or (map name_of fs) k (name_of d)) t) (sym (name_at fs i d f.within))
    ∙ not_here (map name_of fs) i k (name_of d) up (omega (arith, long, f.within)) (omega (arith, long, lt)) other

-- one more to whom it is due
pub due_more : (s : Bytes) (d : Due) (due : List Due) → release_to s (due ++ d ∷ []) ≡ cond (is_in s (names_in due)) (release_to s due) (release_to s (d ∷ []))
due_more s d [] = refl
due_more s d (e ∷ es) = by (same s e.subscriber) (due_more s d es)
  where
    by : (b : Bool) → release_to s (es ++ d ∷ []) ≡ cond (is_in s (names_in es)) (release_to s es) (release_to s (d ∷ []))
        → cond b (Some e.release) (release_to s (es ++ d ∷ [])) ≡ cond (b || is_in s (names_in es)) (cond b (Some e.release) (release_to s es)) (release_to s (d ∷ []))
    by true rest = refl
    by false rest = rest

pub spread_none : (R : ℕ → Feed → Feed → Type 0) (fs : List Feed) → Spread R [] fs fs
spread_none R fs = record { long = refl; changed = λ k d r lt e. absurd (none_some r e); kept = λ k d lt e. refl }

-- the subscriber's feed is changed
pub spread_step : (R : ℕ → Feed → Feed → Type 0) (names : List Bytes) (due : List Due) (olds mids news : List Feed) (i : ℕ) (e : Due)
    → Found names olds i e.subscriber → is_in e.subscriber (names_in due) ≡ false → Spread R due olds mids → Sets (R e.release) i mids news → Spread R (due ++ e ∷ []) olds news
spread_step R names due olds mids news i e f fresh p sets = record {
  long = sets.long ∙ p.long;
  changed = λ k d r lt is. change k d r lt is (cases_eq k i);
  kept = λ k d lt none. keep k d lt none (cases_eq k i);
}
  where
    -- for another place the release is what it was
    other_release : (k : ℕ) (d : Feed) → k < length olds → (k ≡ i → ⊥) → release_to (name_of (get_or olds k d)) (due ++ e ∷ []) ≡ release_to (name_of (get_or olds k d)) due
    other_release k d lt other =
        let s = name_of (get_or olds k d) in
        let apart : same s e.subscriber ≡ false = other_named names olds i k e.subscriber d f lt other in
        due_more s e due ∙ by s (is_in s (names_in due)) refl (rw apart refl)
      where
        by : (s : Bytes) (b : Bool) → is_in s (names_in due) ≡ b → release_to s (e ∷ []) ≡ None → cond b (release_to s due) (release_to s (e ∷ [])) ≡ release_to s due
        by s true is none = refl
        by s false is none = none ∙ sym (not_in s due is)

    -- here it is the new one
    here_release : (d : Feed) → release_to (name_of (get_or olds i d)) (due ++ e ∷ []) ≡ Some e.release
    here_release d =
        let here : name_of (get_or olds i d) ≡ e.subscriber = here_named names olds i e.subscriber d f in
        ap (λ s. release_to s (due ++ e ∷ [])) here ∙ due_more e.subscriber e due ∙ rw (fresh, same_self e.subscriber) refl

    was_kept : (d : Feed) → get_or mids i d ≡ get_or olds i d
    was_kept d = p.kept i d f.within (ap (λ s. release_to s due) (here_named names olds i e.subscriber d f) ∙ not_in e.subscriber due fresh)

    change : (k : ℕ) (d : Feed) (r : ℕ) → k < length olds → release_to (name_of (get_or olds k d)) (due ++ e ∷ []) ≡ Some r → (k ≡ i) ⊎ (k ≡ i → ⊥) → R r (get_or olds k d) (get_or news k d)
    change k d r lt is (inl at) =
        let is_r : e.release ≡ r = some_is e.release r (sym (here_release d) ∙ ap (λ j. release_to (name_of (get_or olds j d)) (due ++ e ∷ [])) (sym at) ∙ is) in
        let Q : ℕ → Type 0 = λ x. R x (get_or olds i d) (get_or news i d) in
        let step : R e.release (get_or olds i d) (get_or news i d) = rw (← was_kept d) (sets.here d) in
        let S : ℕ → Type 0 = λ j. R r (get_or olds j d) (get_or news j d) in
        subst S (sym at) (subst Q is_r step)
    change k d r lt is (inr other) = rw (sets.there k d other) (p.changed k d r lt (sym (other_release k d lt other) ∙ is))

    keep : (k : ℕ) (d : Feed) → k < length olds → release_to (name_of (get_or olds k d)) (due ++ e ∷ []) ≡ None → (k ≡ i) ⊎ (k ≡ i → ⊥) → get_or news k d ≡ get_or olds k d
    keep k d lt none (inl at) = absurd (none_some e.release (sym none ∙ ap (λ j. release_to (name_of (get_or olds j d)) (due ++ e ∷ [])) at ∙ here_release d))
    keep k d lt none (inr other) = sets.there k d other ∙ p.kept k d lt (sym (other_release k d lt other) ∙ none)

-- there is no such subscriber
pub spread_past : (R : ℕ → Feed → Feed → Type 0) (due : List Due) (olds news : List Feed) (e : Due)
    → is_in e.subscriber (map name_of olds) ≡ false → Spread R due olds news → Spread R (due ++ e ∷ []) olds news
spread_past R due olds news e none p = record {
  long = p.long;
  changed = λ k d r lt is. p.changed k d r lt (sym (same_due k d lt) ∙ is);
  kept = λ k d lt is. p.kept k d lt (sym (same_due k d lt) ∙ is);
}
  where
    by : (s : Bytes) (b : Bool) → is_in s (names_in due) ≡ b → release_to s (e ∷ []) ≡ None → cond b (release_to s due) (release_to s (e ∷ [])) ≡ release_to s due
    by s true is none_of = refl
    by s false is none_of = none_of ∙ sym (not_in s due is)

    same_due : (k : ℕ) (d : Feed) → k < length olds → release_to (name_of (get_or olds k d)) (due ++ e ∷ []) ≡ release_to (name_of (get_or olds k d)) due
    same_due k d lt =
        let s = name_of (get_or olds k d) in
        let long : length (map name_of olds) ≡ length olds = length-map olds name_of in
        let other : same s e.subscriber ≡ false = ap (λ t. same t e.subscriber) (sym (name_at olds k d lt)) ∙ not_named e.subscriber (map name_of olds) k (name_of d) none (omega (arith, long, lt)) in
        due_more s e due ∙ by s (is_in s (names_in due)) refl (rw other refl)

-- ---- the feed of one subscriber

pub one_set : (R : Feed → Feed → Type 0) (names : List Bytes) (olds news : List Feed) (i : ℕ) (s : Bytes) → Found names olds i s → Sets R i olds news → OneGoes R s olds news
one_set R names olds news i s f sets = record {
  long = sets.long;
  changed = λ k d lt is. change k d lt is (cases_eq k i);
  kept = λ k d lt other. keep k d lt other (cases_eq k i);
}
  where
    change : (k : ℕ) (d : Feed) → k < length olds → same (name_of (get_or olds k d)) s ≡ true → (k ≡ i) ⊎ (k ≡ i → ⊥) → R (get_or olds k d) (get_or news k d)
    change k d lt is (inl at) = rw at (sets.here d)
    change k d lt is (inr other) = absurd (true≢false (sym is ∙ other_named names olds i k s d f lt other))

    keep : (k : ℕ) (d : Feed) → k < length olds → same (name_of (get_or olds k d)) s ≡ false → (k ≡ i) ⊎ (k ≡ i → ⊥) → get_or news k d ≡ get_or olds k d
    keep k d lt is (inl at) =
        let there : name_of (get_or olds k d) ≡ s = ap (λ j. name_of (get_or olds j d)) at ∙ here_named names olds i s d f in
        absurd (true≢false (sym (ap (λ t. same t s) there ∙ same_self s) ∙ is))
    keep k d lt is (inr other) = sets.there k d other

pub one_none : (R : Feed → Feed → Type 0) (fs : List Feed) (s : Bytes) → is_in s (map name_of fs) ≡ false → OneGoes R s fs fs
one_none R fs s none = record {
  long = refl;
  changed = λ k d lt is.
      let long : length (map name_of fs) ≡ length fs = length-map fs name_of in
      absurd (true≢false (sym is ∙ ap (λ t. same t s) (sym (name_at fs k d lt)) ∙ not_named s (map name_of fs) k (name_of d) none (omega (arith, long, lt))));
  kept = λ k d lt is. refl;
}

-- a feed is changed, or it is as it was
pub one_each : (R S : Feed → Feed → Type 0) (s : Bytes) (olds news : List Feed) → OneGoes R s olds news → ((f g : Feed) → R f g → S f g) → ((f : Feed) → S f f) → EachGoes S olds news
one_each R S s olds news goes changed kept = record {
  long = goes.long;
  each = λ k d lt. by k d lt (same (name_of (get_or olds k d)) s) refl;
}
  where
    by : (k : ℕ) (d : Feed) → k < length olds → (b : Bool) → same (name_of (get_or olds k d)) s ≡ b → S (get_or olds k d) (get_or news k d)
    by k d lt true is = changed _ _ (goes.changed k d lt is)
    by k d lt false is = rw (goes.kept k d lt is) (kept (get_or olds k d))

-- ---- the loop over the names

pub found_at : (fs : Feeds) (at : ℕ) (s : Bytes) → (at < length fs.names.items) × ((d : Bytes) → get_or fs.names.items at d ≡ s) → Found fs.names.items fs.feeds.items at s
found_at fs at s found =
    let long : length (map name_of fs.feeds.items) ≡ length fs.feeds.items = length-map fs.feeds.items name_of in
    let same : length (map name_of fs.feeds.items) ≡ length fs.names.items = ap length fs.named in
    record { ascends = fs.ascends; named = fs.named; within = omega (arith, long, same, found.0); is = found.1 }

-- the names were the same before
pub found_as : (old new : Feeds) → new.names.items ≡ old.names.items → (at : ℕ) (s : Bytes) → (at < length new.names.items) × ((d : Bytes) → get_or new.names.items at d ≡ s) → Found old.names.items old.feeds.items at s
found_as old new names at s found = found_at old at s (subst (λ (ns : List Bytes). (at < length ns) × ((d : Bytes) → get_or ns at d ≡ s)) names found)

-- the name at hand is not among those before it
pub fresh : (due : List Due) (k : ℕ) (e : Due) → Differ (names_in due) → k < length due → e ≡ get_or due k e → is_in e.subscriber (names_in (take k due)) ≡ false
fresh due k e differ lt is =
    let long : length (names_in due) ≡ length due = length-map due subscriber_in in
    let at : get_or (names_in due) k e.subscriber ≡ e.subscriber = get_or-map subscriber_in due k e e.subscriber lt ∙ ap subscriber_in (sym is) in
    ap (is_in e.subscriber) (sym (take_map due k)) ∙ ap (λ t. is_in t (take k (names_in due))) (sym at) ∙ differ_take (names_in due) k e.subscriber differ (omega (arith, long, lt))
  where
    take_map : (due : List Due) (k : ℕ) → take k (names_in due) ≡ names_in (take k due)
    take_map due zero = refl
    take_map [] (suc k) = refl
    take_map (d ∷ ds) (suc k) = ap (λ ns. d.subscriber ∷ ns) (take_map ds k)

pub one_more : {A : Type 0} (xs : List A) (k : ℕ) (x : A) → k < length xs → x ≡ get_or xs k x → take (k + 1) xs ≡ take k xs ++ x ∷ []
one_more xs k x lt is = take_more xs k x lt ∙ ap (λ y. take k xs ++ y ∷ []) (sym is)

pub names_so_far : (due : List Due) (k : ℕ) (e : Due) → k < length due → e ≡ get_or due k e → names_in (take (k + 1) due) ≡ names_in (take k due) ++ e.subscriber ∷ []
names_so_far due k e lt is = ap names_in (one_more due k e lt is) ∙ map-append subscriber_in (take k due) (e ∷ [])

-- it is due
pub is_due_now : (due : List Due) (k : ℕ) (e : Due) → k < length due → e ≡ get_or due k e → is_in e.subscriber (names_in due) ≡ true
is_due_now due k e lt is =
    let long : length (names_in due) ≡ length due = length-map due subscriber_in in
    present e.subscriber (names_in due) k e.subscriber (omega (arith, long, lt)) (get_or-map subscriber_in due k e e.subscriber lt ∙ ap subscriber_in (sym is))

-- its feed has not been changed yet
pub not_yet : (due : List Due) (k : ℕ) (e : Due) → Differ (names_in due) → k < length due → e ≡ get_or due k e → release_to e.subscriber (take k due) ≡ None
not_yet due k e differ lt is = not_in e.subscriber (take k due) (fresh due k e differ lt is)

-- one more of them has room
pub roomy_step : (names due : List Bytes) (mids news : List Feed) (i : ℕ) (s : Bytes)
    → Found names mids i s → All (IsRoomy due) mids → Sets IsSame i mids news → HoldsAt FitsOneMore news i → All (IsRoomy (due ++ s ∷ [])) news
roomy_step names due mids news i s f roomy sets fits k d lt e = by (cases_eq k i)
  where
    by : (k ≡ i) ⊎ (k ≡ i → ⊥) → FitsOneMore (get_or news k d)
    by (inl is) = rw is (fits d)
    by (inr other) =
        let there : get_or news k d ≡ get_or mids k d = sets.there k d other in
        let long : length news ≡ length mids = sets.long in
        let within : k < length mids = omega (arith, long, lt) in
        let among : (is_in (name_of (get_or mids k d)) due || same (name_of (get_or mids k d)) s) ≡ true = sym (in_more (name_of (get_or mids k d)) s due) ∙ ap (λ t. is_in (name_of t) (due ++ s ∷ [])) (sym there) ∙ e in
        rw there (elim (or_true _ _ among) [
          | inl so ↦ roomy k d within so
          | inr is ↦ absurd (true≢false (sym is ∙ other_named names mids i k s d f within other))
        ])

pub roomy_past : (due : List Bytes) (fs : List Feed) (s : Bytes) → is_in s (map name_of fs) ≡ false → All (IsRoomy due) fs → All (IsRoomy (due ++ s ∷ [])) fs
roomy_past due fs s none roomy k d lt e = elim (or_true _ _ (sym (in_more (name_of (get_or fs k d)) s due) ∙ e)) [
  | inl so ↦ roomy k d lt so
  | inr is ↦
      let long : length (map name_of fs) ≡ length fs = length-map fs name_of in
      let other : same (name_of (get_or fs k d)) s ≡ false = ap (λ t. same t s) (sym (name_at fs k d lt)) ∙ not_named s (map name_of fs) k (name_of d) none (omega (arith, long, lt)) in
      absurd (true≢false (sym is ∙ other))
]

-- what takes nothing leaves room
pub roomy_by : (R : Feed → Feed → Type 0) (due : List Bytes) (olds news : List Feed) → EachGoes R olds news → ((f g : Feed) → R f g → name_of g ≡ name_of f) → ((f g : Feed) → R f g → FitsOneMore f → FitsOneMore g)
    → All (IsRoomy due) olds → All (IsRoomy due) news
roomy_by R due olds news goes name fits roomy k d lt e =
    let within : k < length olds = omega (arith, goes.long, lt) in
    let step : R (get_or olds k d) (get_or news k d) = goes.each k d within in
    fits _ _ step (roomy k d within (ap (λ s. is_in s due) (sym (name _ _ step)) ∙ e))
