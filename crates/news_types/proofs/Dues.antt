-- Those to whom something is due, and their releases.
use Rattle.std.proofs.Common.{◌≡◌, ◌==◌, ℕ, ◌+◌, ◌≤◌, max, min, Bool, true, false, cond, ◌||◌, Option, Some, None, List, [], ◌∷◌, map, refl, sym, ap, subst, ◌∙◌, arith}
use Rattle.std.specs.Prelude.{nat_le, is_some}
use Rattle.std.specs.List.{filter}
use mathlib.Core.Bool.{true≢false}
use Rattle.news_types.specs.declared.entry.Act.{Act}
use Rattle.news_types.specs.declared.entry.Act.TheVariants.{Request}
use Rattle.news_types.specs.declared.command.Command.TheVariants.{Deschedule, Kill, Recall}
use Rattle.news_types.specs.declared.words.Kind.{Kind}
use Rattle.news_types.specs.declared.words.Kind.TheVariants as kind
use Rattle.news_types.specs.declared.query.Due.{Due}
use Rattle.news_types.specs.Names.{Bytes, same, is_in}
use Rattle.news_types.specs.History.{History}
use Rattle.news_types.specs.Products.{lag}
use Rattle.news_types.specs.Due.{Pub, release_to, is_by, latest, lagged, given_by, left_behind, taken_back, release_for}
use Rattle.news_types.specs.Items.{Item, Made}
use Rattle.news_types.specs.Publications.{Issue, made, standing, issued_by, pubs_of_item, pubs_of_issue, kept_by}
use Rattle.news_types.specs.Members.{Each}
use Rattle.news_types.proofs.Members.{same_is, some_is, none_some, each_append, each_filter}
use Rattle.news_types.proofs.Bounds.{new_pubs}

-- ---- a lag

-- of a release up to the last second of the year 9999 it is the lesser of the sum and that second, and no earlier than the other moment
pub lagged_is : (release lag earlier : ℕ) → release ≤ 253402300799 → lagged release lag earlier ≡ max earlier (min (release + lag) 253402300799)
lagged_is release lag earlier le = omega arith

pub lagged_from : (release lag earlier : ℕ) → release ≤ lagged release lag earlier
lagged_from release lag earlier = omega arith

pub lagged_behind : (release lag earlier : ℕ) → earlier ≤ lagged release lag earlier
lagged_behind release lag earlier = omega arith

-- ---- releases by subscriber

-- the releases are those that a function gives the subscribers
abbrev pub AreOf : (Bytes → ℕ) → List Due → Type 0
AreOf f due = Each (λ (d : Due). d.release ≡ f d.subscriber) due

-- so a subscriber has one release
abbrev pub Agree : List Due → Type 0
Agree due = (f : Bytes → ℕ) × AreOf f due

-- no release is earlier
abbrev pub AreFrom : ℕ → List Due → Type 0
AreFrom r due = Each (λ (d : Due). r ≤ d.release) due

pub are_of : (f : Bytes → ℕ) (names : List Bytes) → AreOf f (map (λ (s : Bytes). let d : Due = record { subscriber = s; release = f s } in d) names)
are_of f [] = tt
are_of f (s ∷ names) = (refl, are_of f names)

pub are_from : (r : ℕ) (f : Bytes → ℕ) (names : List Bytes) → ((s : Bytes) → r ≤ f s) → AreFrom r (map (λ (s : Bytes). let d : Due = record { subscriber = s; release = f s } in d) names)
are_from r f [] le = tt
are_from r f (s ∷ names) le = (le s, are_from r f names le)

-- the release of one is what the function says
pub release_of_to : (f : Bytes → ℕ) (s : Bytes) (due : List Due) (r : ℕ) → AreOf f due → release_to s due ≡ Some r → r ≡ f s
release_of_to f s [] r all is = absurd (none_some r is)
release_of_to f s (d ∷ due) r all is = by (same s d.subscriber) refl is (release_of_to f s due r all.1)
  where
    by : (b : Bool) → same s d.subscriber ≡ b → cond b (Some d.release) (release_to s due) ≡ Some r → (release_to s due ≡ Some r → r ≡ f s) → r ≡ f s
    by true alike is rest = sym (some_is d.release r is) ∙ all.0 ∙ ap f (sym (same_is s d.subscriber alike))
    by false other is rest = rest is

pub release_from : (a : ℕ) (s : Bytes) (due : List Due) (r : ℕ) → AreFrom a due → release_to s due ≡ Some r → a ≤ r
release_from a s [] r all is = absurd (none_some r is)
release_from a s (d ∷ due) r all is = by (same s d.subscriber) is (release_from a s due r all.1)
  where
    by : (b : Bool) → cond b (Some d.release) (release_to s due) ≡ Some r → (release_to s due ≡ Some r → a ≤ r) → a ≤ r
    by true is rest = let here : d.release ≡ r = some_is d.release r is in omega (arith, here, all.0)
    by false is rest = rest is

-- what holds of each that is due holds of the one of the subscriber
pub each_release : (P : ℕ → Type 0) (s : Bytes) (due : List Due) (r : ℕ) → Each (λ (d : Due). P d.release) due → release_to s due ≡ Some r → P r
each_release P s [] r all is = absurd (none_some r is)
each_release P s (d ∷ due) r all is = by (same s d.subscriber) is (each_release P s due r all.1)
  where
    by : (b : Bool) → cond b (Some d.release) (release_to s due) ≡ Some r → (release_to s due ≡ Some r → P r) → P r
    by true is rest = subst P (some_is d.release r is) all.0
    by false is rest = rest is

-- those of a list of names are due
pub listed_due : (f : Bytes → ℕ) (s : Bytes) (names : List Bytes) → release_to s (map (λ (t : Bytes). let d : Due = record { subscriber = t; release = f t } in d) names) ≡ cond (is_in s names) (Some (f s)) None
listed_due f s [] = refl
listed_due f s (t ∷ names) = by (same s t) refl (listed_due f s names)
  where
    by : (b : Bool) → same s t ≡ b → release_to s (map (λ (t : Bytes). let d : Due = record { subscriber = t; release = f t } in d) names) ≡ cond (is_in s names) (Some (f s)) None
        → cond b (Some (f t)) (release_to s (map (λ (t : Bytes). let d : Due = record { subscriber = t; release = f t } in d) names)) ≡ cond (b || is_in s names) (Some (f s)) None
    by true alike rest = ap (λ (u : Bytes). Some (f u)) (sym (same_is s t alike))
    by false other rest = rest

-- ---- those to whom it is released by a moment

none_given : (f : Bytes → ℕ) (m : ℕ) (s : Bytes) (due : List Due) → AreOf f due → nat_le (f s) m ≡ false → release_to s (given_by m due) ≡ None
none_given f m s [] all late = refl
none_given f m s (d ∷ due) all late = by (nat_le d.release m) (same s d.subscriber) refl refl (none_given f m s due all.1 late)
  where
    by : (b c : Bool) → nat_le d.release m ≡ b → same s d.subscriber ≡ c → release_to s (given_by m due) ≡ None → release_to s (cond b (d ∷ given_by m due) (given_by m due)) ≡ None
    by false c early is rest = rest
    by true false early is rest = rw is rest
    by true true early is rest =
        let here : d.release ≡ f s = all.0 ∙ ap f (sym (same_is s d.subscriber is)) in
        absurd (true≢false (sym early ∙ ap (λ (n : ℕ). nat_le n m) here ∙ late))

-- behind a kill at the moment the subscriber has its release, if that has come, or none
pub release_given : (f : Bytes → ℕ) (m : ℕ) (s : Bytes) (due : List Due) → AreOf f due → release_to s (given_by m due) ≡ cond (is_by m (release_to s due)) (release_to s due) None
release_given f m s [] all = refl
release_given f m s (d ∷ due) all = by (nat_le d.release m) (same s d.subscriber) refl refl (release_given f m s due all.1)
  where
    by : (b c : Bool) → nat_le d.release m ≡ b → same s d.subscriber ≡ c
        → release_to s (given_by m due) ≡ cond (is_by m (release_to s due)) (release_to s due) None
        → release_to s (cond b (d ∷ given_by m due) (given_by m due)) ≡ cond (is_by m (cond c (Some d.release) (release_to s due))) (cond c (Some d.release) (release_to s due)) None
    by true true early is rest = rw (is, early) refl
    by true false early is rest = rw is rest
    by false true early is rest =
        let here : d.release ≡ f s = all.0 ∙ ap f (sym (same_is s d.subscriber is)) in
        rw early (none_given f m s due all.1 (sym (ap (λ (n : ℕ). nat_le n m) here) ∙ early))
    by false false early is rest = rest

-- who has a release there had it before
pub given_had : (t : Due → Bool) (s : Bytes) (due : List Due) → is_some (release_to s (filter t due)) ≡ true → is_some (release_to s due) ≡ true
given_had t s [] there = there
given_had t s (d ∷ due) there = by (t d) (same s d.subscriber) refl there (given_had t s due)
  where
    by : (b c : Bool) → same s d.subscriber ≡ c → is_some (release_to s (cond b (d ∷ filter t due) (filter t due))) ≡ true
        → (is_some (release_to s (filter t due)) ≡ true → is_some (release_to s due) ≡ true) → is_some (cond c (Some d.release) (release_to s due)) ≡ true
    by b true is there rest = refl
    by true false is there rest = rest (rw is at there)
    by false false is there rest = rest there

-- ---- a property of publications that goes over to what is left of them

each_left : (P : Pub → Type 0) → ((m i : ℕ) (p : Pub) → P p → P (left_behind m i p)) → (m i : ℕ) (ps : List Pub) → Each P ps → Each P (taken_back m i ps)
each_left P left m i [] all = tt
each_left P left m i (p ∷ ps) all = (left m i p all.0, each_left P left m i ps all.1)

pub each_kept : (P : Pub → Type 0) → ((m i : ℕ) (p : Pub) → P p → P (left_behind m i p)) → (m : ℕ) (act : Act) (ps : List Pub) → Each P ps → Each P (kept_by m act ps)
each_kept P left m (Request caller number (Deschedule i)) ps all = each_filter P _ ps all
each_kept P left m (Request caller number (Kill i session note)) ps all = each_left P left m i ps all
each_kept P left m (Request caller number (Recall i session note)) ps all = each_left P left m i ps all
each_kept P left m (Request caller number command) ps all = all
each_kept P left m _ ps all = all

-- what holds of those to whom a publication is due
each_left_due : (P : Due → Type 0) (m i : ℕ) (p : Pub) → Each P p.due → Each P (left_behind m i p).due
each_left_due P m i p all = elim (p.item == i) as (λ b. Each P (cond b (given_by m p.due) p.due)) [ true ↦ each_filter P _ p.due all | false ↦ all ]

-- ---- the publications that stand

release_for_from : (h : History) (ps : List Pub) (k : Kind) (i release : ℕ) (s : Bytes) → release ≤ release_for h ps k i release s
release_for_from h ps kind.First i release s = lagged_from release (lag h s) 0
release_for_from h ps kind.Correct i release s = lagged_from release (lag h s) (latest ps i s)
release_for_from h ps kind.Kill i release s = omega arith
release_for_from h ps kind.Recall i release s = omega arith

-- each has one release for a subscriber, and none before its own
pub record IsFair (p : Pub) : Type 0 where
  pub agree : Agree p.due
  pub from : AreFrom p.release p.due

fair_item : (h : History) (w : Made) (issue : Issue) (o : Option Item) → Each IsFair (pubs_of_item h w issue o)
fair_item h w issue None = tt
fair_item h w issue (Some it) =
    let f : Bytes → ℕ = release_for h w.standing issue.kind issue.item issue.release in
    (record { agree = (f, are_of f _); from = are_from issue.release f _ (release_for_from h w.standing issue.kind issue.item issue.release) }, tt)

fair_issue : (h : History) (w : Made) (o : Option Issue) → Each IsFair (pubs_of_issue h w o)
fair_issue h w None = tt
fair_issue h w (Some issue) = fair_item h w issue issue.after

pub new_are_fair : (h : History) (w : Made) (m : ℕ) (act : Act) → Each IsFair (pubs_of_issue h w (issued_by h w m act))
new_are_fair h w m act = fair_issue h w (issued_by h w m act)

pub fair_left : (m i : ℕ) (p : Pub) → IsFair p → IsFair (left_behind m i p)
fair_left m i p fair = record { agree = (fair.agree.0, each_left_due _ m i p fair.agree.1); from = each_left_due _ m i p fair.from }

pub standing_are_fair : (h : History) → Each IsFair (standing h)
standing_are_fair [] = tt
standing_are_fair (e ∷ h) =
    each_append IsFair (new_pubs e h) (kept_by e.moment e.act (standing h)) (new_are_fair h (made h) e.moment e.act)
    (each_kept IsFair fair_left e.moment e.act (standing h) (standing_are_fair h))
