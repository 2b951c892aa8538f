-- Whom corrections, kills and recalls reach.
use Rattle.std.proofs.Common.{◌≡◌, ◌==◌, ℕ, zero, suc, ◌+◌, ◌<◌, ◌≤◌, ◌⊎◌, inl, inr, Bool, true, false, cond, max, ◌&&◌, ◌||◌, not, Option, Some, None, List, [], ◌∷◌, ◌++◌, length, refl, sym, ap, subst, ◌∙◌, arith}
use Rattle.std.specs.Prelude.{slice_get, is_some, nat_lt}
use Rattle.std.specs.List.{filter}
use Rattle.std.proofs.lemmas.Bool.{cases_lt}
use Rattle.std.proofs.lemmas.Bool.Decides.{nat_tests, Decides-eqb}
use mathlib.Core.Bool.{true≢false}
use Rattle.news_types.specs.declared.entry.Act.{Act}
use Rattle.news_types.specs.declared.entry.Act.TheVariants.{Ingest, Request}
use Rattle.news_types.specs.declared.command.Command.{Command}
use Rattle.news_types.specs.declared.command.Command.TheVariants.{Flash, Publish, Correct, Kill, Recall, Deschedule}
use Rattle.news_types.specs.declared.words.Kind.{Kind}
use Rattle.news_types.specs.declared.words.Kind.TheVariants as kind
use Rattle.news_types.specs.declared.story.Incoming.{Incoming}
use Rattle.news_types.specs.declared.query.Publication.{Publication}
use Rattle.news_types.specs.Names.{Bytes, same, is_in}
use Rattle.news_types.specs.History.{History, moment}
use Rattle.news_types.specs.Products.{is_subscriber, subscribers, permitted}
use Rattle.news_types.specs.Due.{Pub, shown, is_first, is_first_of, takes_back, release_to, is_due, is_by, had, had_by, given_by, left_behind, taken_back, withdrawn, is_due_by, release_for}
use Rattle.news_types.specs.Items.{Item, Made, Effect, NewAt, item_after, made_by, routed_item, effect_by}
use Rattle.news_types.specs.Publications.{Issue, made, item, standing, release_at, first_issue, later_issue, issued_by, issued_by_command, issued_by_effect, pub_of, pubs_of_item, pubs_of_issue, kept_by}
use Rattle.news_types.specs.Feeds.{Dispatch, dispatch, inserted, put, is_out, is_waiting, due_to, feed, waiting}
use Rattle.news_types.specs.Denial.{first_missing, missing}
use Rattle.news_types.specs.Legal.{IsLegal, Follows}
use Rattle.news_types.specs.Members.{Each}
use Rattle.world_laws.specs.FeedOrder.{Has, KillsReach, CorrectionsReach, IsTakenBack, ReachesAll}
use Rattle.news_types.proofs.Members.{same_is, some_is, none_some, each_get, each_map, each_append}
use Rattle.news_types.proofs.Legal.{missing_row, item_there, still_there}
use Rattle.news_types.proofs.Dues.{IsFair, listed_due, release_given, fair_left, each_kept, standing_are_fair}
use Rattle.news_types.proofs.Bounds.{new_pubs}
use Rattle.news_types.proofs.Numbering.{each_feed, NumberTo, standing_numbers}
use Rattle.news_types.proofs.Subscribed.{IsToKnown, listed_is, standing_are_known}
use Rattle.world_laws.proofs.There.{IsThere, there_cons, there_more, there_get, there_left, left_there, filter_there, there_filter}
use Rattle.world_laws.proofs.Behind.{left_had, new_release, taken_release}

-- ---- whom the rule reaches

or_right : (a b : Bool) → b ≡ true → (a || b) ≡ true
or_right true b h = refl
or_right false b h = h

both : (a b : Bool) → a ≡ true → b ≡ true → (a && b) ≡ true
both true b one two = two
both false b one two = absurd (true≢false (sym one))

here_is : (p : Pub) (i : ℕ) → p.item ≡ i → (p.item == i) ≡ true
here_is p i same = (Decides-eqb p.item i).1 same

-- one of them shows that the subscriber had one
had_one : (ps : List Pub) (k i : ℕ) (p : Pub) (s : Bytes) → slice_get ps k ≡ Some p → p.item ≡ i → is_due s p ≡ true → had ps i s ≡ true
had_one [] k i p s is item due = absurd (none_some p is)
had_one (q ∷ ps) zero i p s is item due =
    let equal : q ≡ p = some_is q p is in
    rw (both (q.item == i) (is_due s q) (here_is q i (ap (λ (x : Pub). x.item) equal ∙ item)) (ap (is_due s) equal ∙ due)) refl
had_one (q ∷ ps) (suc k) i p s is item due = or_right (q.item == i && is_due s q) (had ps i s) (had_one ps k i p s is item due)

had_by_one : (m : ℕ) (ps : List Pub) (k i : ℕ) (p : Pub) (s : Bytes) → slice_get ps k ≡ Some p → p.item ≡ i → is_by m (release_to s p.due) ≡ true → had_by m ps i s ≡ true
had_by_one m [] k i p s is item by_then = absurd (none_some p is)
had_by_one m (q ∷ ps) zero i p s is item by_then =
    let equal : q ≡ p = some_is q p is in
    rw (both (q.item == i) (is_by m (release_to s q.due)) (here_is q i (ap (λ (x : Pub). x.item) equal ∙ item)) (ap (λ (x : Pub). is_by m (release_to s x.due)) equal ∙ by_then)) refl
had_by_one m (q ∷ ps) (suc k) i p s is item by_then = or_right (q.item == i && is_by m (release_to s q.due)) (had_by m ps i s) (had_by_one m ps k i p s is item by_then)

some_there : (s : Bytes) (p : Pub) (r : ℕ) → release_to s p.due ≡ Some r → is_due s p ≡ true
some_there s p r is = ap is_some is

by_there : (m : ℕ) (s : Bytes) (p : Pub) (r : ℕ) → release_to s p.due ≡ Some r → r ≤ m → is_by m (release_to s p.due) ≡ true
by_there m s p r is le = rw is (grind (arith, nat_tests, le))

pub reaches_all : ReachesAll is_due_by
reaches_all h n p kind.First story release earlier targets s legal later is due reached = absurd (true≢false later)
reaches_all h n p kind.Correct story release earlier targets s legal later is due reached = or_right (permitted h story targets s) _ (had_one (standing h) n p.item p s is refl (some_there s p earlier due))
reaches_all h n p kind.Kill story release earlier targets s legal later is due reached = had_by_one release (standing h) n p.item p s is refl (by_there release s p earlier due reached)
reaches_all h n p kind.Recall story release earlier targets s legal later is due reached = had_by_one release (standing h) n p.item p s is refl (by_there release s p earlier due reached)

-- ---- a new publication is due to those whom it reaches

pub back_in_filter : (s : Bytes) (t : Bytes → Bool) (names : List Bytes) → is_in s names ≡ true → t s ≡ true → is_in s (filter t names) ≡ true
back_in_filter s t [] listed passes = listed
back_in_filter s t (x ∷ names) listed passes = by (t x) (same s x) refl refl listed (back_in_filter s t names)
  where
    by : (b c : Bool) → t x ≡ b → same s x ≡ c → (c || is_in s names) ≡ true → (is_in s names ≡ true → t s ≡ true → is_in s (filter t names) ≡ true) → is_in s (cond b (x ∷ filter t names) (filter t names)) ≡ true
    by true true passed alike listed rest = rw alike refl
    by true false passed other listed rest = or_right (same s x) (is_in s (filter t names)) (rest listed passes)
    by false true failed alike listed rest = absurd (true≢false (sym passes ∙ ap t (same_is s x alike) ∙ failed))
    by false false failed other listed rest = rest listed passes

-- who is a subscriber and is due it by the rule
new_due : (h : History) (w : Made) (issue : Issue) (it : Item) (s : Bytes) → is_subscriber h s ≡ true
    → is_due_by h w.standing issue.kind issue.item (pub_of h w issue it).story issue.release issue.targets s ≡ true → is_due s (pub_of h w issue it) ≡ true
new_due h w issue it s known rule =
    let f : Bytes → ℕ = release_for h w.standing issue.kind issue.item issue.release in
    let test : Bytes → Bool = is_due_by h w.standing issue.kind issue.item (pub_of h w issue it).story issue.release issue.targets in
    let listed : is_in s (filter test (subscribers h)) ≡ true = back_in_filter s test (subscribers h) (listed_is h s ∙ known) rule in
    ap is_some (listed_due f s (filter test (subscribers h))) ∙ ap (λ (b : Bool). is_some (cond b (Some (f s)) None)) listed

-- ---- what holds of every two publications of an item that stand

-- a kill or recall behind it is due to the subscriber
abbrev TakenIn : List Pub → Bytes → Pub → Type 0
TakenIn ps s q = (t : Pub) × IsThere t ps × (t.item ≡ q.item) × (takes_back t.kind ≡ true) × (q.number < t.number) × (is_due s t ≡ true)

-- the second is of the same item, and made before
abbrev IsBefore : Pub → Pub → Type 0
IsBefore q p = (p.item ≡ q.item) × (p.number < q.number)

pub record Reach (ps : List Pub) : Type 0 where
  pub kills : (q p : Pub) (s : Bytes) → IsThere q ps → IsThere p ps → takes_back q.kind ≡ true → IsBefore q p → is_due s p ≡ true → is_due s q ≡ true
  pub corrections : (q p : Pub) (s : Bytes) → IsThere q ps → IsThere p ps → is_first q.kind ≡ false → IsBefore q p → is_due s p ≡ true → (is_due s q ≡ true) ⊎ TakenIn ps s q

-- a kill or recall is released to each at its own moment, which has come
abbrev IsKill : ℕ → Pub → Type 0
IsKill m q = takes_back q.kind ≡ true → (q.release ≤ m) × ((s : Bytes) (r : ℕ) → release_to s q.due ≡ Some r → r ≡ q.release)

no_first : (k : Kind) → takes_back k ≡ true → is_first k ≡ false
no_first kind.Kill back = refl
no_first kind.Recall back = refl
no_first kind.First back = absurd (true≢false (sym back))
no_first kind.Correct back = refl

taken_more : (q0 : Pub) (ps : List Pub) (s : Bytes) (q : Pub) → TakenIn ps s q → TakenIn (q0 ∷ ps) s q
taken_more q0 ps s q taken = (taken.0, there_more taken.0 q0 ps taken.1, taken.2, taken.3, taken.4, taken.5)

-- a new publication in front of others, for which it holds as far as the new one helps
module _ (q0 : Pub) (ps : List Pub) (lower : Each (λ (q : Pub). q.number < q0.number) ps)
    (new : (p : Pub) (s : Bytes) → IsThere p ps → is_first q0.kind ≡ false → p.item ≡ q0.item → is_due s p ≡ true → is_due s q0 ≡ true)
    (old_kills : (q p : Pub) (s : Bytes) → IsThere q ps → IsThere p ps → takes_back q.kind ≡ true → IsBefore q p → is_due s p ≡ true → is_due s q ≡ true)
    (old_corrections : (q p : Pub) (s : Bytes) → IsThere q ps → IsThere p ps → is_first q.kind ≡ false → IsBefore q p → is_due s p ≡ true → (is_due s q ≡ true) ⊎ TakenIn (q0 ∷ ps) s q) where
  -- none is behind the new one
  not_behind : (q p : Pub) → p ≡ q0 → IsThere q (q0 ∷ ps) → IsBefore q p → ⊥
  not_behind q p is there before = elim (there_cons q q0 ps there) [
    | inl same ↦ let a : p.number ≡ q0.number = ap (λ (x : Pub). x.number) is in let b : q.number ≡ q0.number = ap (λ (x : Pub). x.number) same in omega (arith, a, b, before.1)
    | inr rest ↦ let a : p.number ≡ q0.number = ap (λ (x : Pub). x.number) is in let b = there_get (λ (x : Pub). x.number < q0.number) ps q lower rest in omega (arith, a, b, before.1)
  ]

  new_is_due : (q p : Pub) (s : Bytes) → q ≡ q0 → IsThere p ps → is_first q.kind ≡ false → p.item ≡ q.item → is_due s p ≡ true → is_due s q ≡ true
  new_is_due q p s is there later item due =
      ap (is_due s) is ∙ new p s there (sym (ap (λ (x : Pub). is_first x.kind) is) ∙ later) (item ∙ ap (λ (x : Pub). x.item) is) due

  reach_new : Reach (q0 ∷ ps)
  reach_new = record {
    kills = λ q p s tq tp back before due. elim (there_cons p q0 ps tp) [
      | inl same ↦ absurd (not_behind q p same tq before)
      | inr old ↦ elim (there_cons q q0 ps tq) [
        | inl is ↦ new_is_due q p s is old (no_first q.kind back) before.0 due
        | inr rest ↦ old_kills q p s rest old back before due
      ]
    ];
    corrections = λ q p s tq tp later before due. elim (there_cons p q0 ps tp) [
      | inl same ↦ absurd (not_behind q p same tq before)
      | inr old ↦ elim (there_cons q q0 ps tq) [
        | inl is ↦ inl (new_is_due q p s is old later before.0 due)
        | inr rest ↦ old_corrections q p s rest old later before due
      ]
    ];
  }

more_taken : (q0 : Pub) (ps : List Pub) (s : Bytes) (q : Pub) → (is_due s q ≡ true) ⊎ TakenIn ps s q → (is_due s q ≡ true) ⊎ TakenIn (q0 ∷ ps) s q
more_taken q0 ps s q (inl due) = inl due
more_taken q0 ps s q (inr taken) = inr (taken_more q0 ps s q taken)

-- in front of others for which it holds
reach_more : (q0 : Pub) (ps : List Pub) → Reach ps → Each (λ (q : Pub). q.number < q0.number) ps
    → ((p : Pub) (s : Bytes) → IsThere p ps → is_first q0.kind ≡ false → p.item ≡ q0.item → is_due s p ≡ true → is_due s q0 ≡ true) → Reach (q0 ∷ ps)
reach_more q0 ps reach lower new = reach_new q0 ps lower new reach.kills (λ q p s tq tp later before due. more_taken q0 ps s q (reach.corrections q p s tq tp later before due))

-- where first publications go
reach_filter : (i : ℕ) (ps : List Pub) → Reach ps → Reach (withdrawn i ps)
reach_filter i ps reach = record {
  kills = λ q p s tq tp back before due. reach.kills q p s (filter_there _ q ps tq) (filter_there _ p ps tp) back before due;
  corrections = λ q p s tq tp later before due. kept q s (reach.corrections q p s (filter_there _ q ps tq) (filter_there _ p ps tp) later before due);
}
  where
    stays : (t : Pub) → takes_back t.kind ≡ true → not (is_first_of i t) ≡ true
    stays t back = ap (λ (b : Bool). not (b && t.item == i)) (no_first t.kind back)

    kept : (q : Pub) (s : Bytes) → (is_due s q ≡ true) ⊎ TakenIn ps s q → (is_due s q ≡ true) ⊎ TakenIn (withdrawn i ps) s q
    kept q s (inl due) = inl due
    kept q s (inr taken) = inr (taken.0, there_filter _ taken.0 ps taken.1 (stays taken.0 taken.3), taken.2, taken.3, taken.4, taken.5)

-- ---- behind a kill

if_some : (b : Bool) (o : Option ℕ) → is_some (cond b o None) ≡ true → b ≡ true
if_some true o there = refl
if_some false o there = there

-- who is due what is left had it by then
left_by : (m i : ℕ) (s : Bytes) (p : Pub) → IsFair p → p.item ≡ i → is_due s (left_behind m i p) ≡ true → is_by m (release_to s p.due) ≡ true
left_by m i s p fair item due =
    let here = here_is p i item in
    if_some (is_by m (release_to s p.due)) (release_to s p.due)
    (sym (ap is_some (release_given fair.agree.0 m s p.due fair.agree.1)) ∙ sym (ap (λ (b : Bool). is_some (release_to s (cond b (given_by m p.due) p.due))) here) ∙ due)

other_left : (m i : ℕ) (s : Bytes) (p : Pub) → (p.item == i) ≡ false → is_due s (left_behind m i p) ≡ is_due s p
other_left m i s p other = ap (λ (b : Bool). is_some (release_to s (cond b (given_by m p.due) p.due))) other

some_of : (o : Option ℕ) → is_some o ≡ true → (r : ℕ) × (o ≡ Some r)
some_of None there = absurd (true≢false (sym there))
some_of (Some r) there = (r, refl)

-- a kill or recall from before stays due to each
kill_left : (m n i : ℕ) (s : Bytes) (q : Pub) → m ≤ n → IsFair q → IsKill m q → takes_back q.kind ≡ true → is_due s q ≡ true → is_due s (left_behind n i q) ≡ true
kill_left m n i s q le fair kill back due = by (q.item == i)
  where
    some : (r : ℕ) × (release_to s q.due ≡ Some r)
    some = some_of (release_to s q.due) due

    early : is_by n (release_to s q.due) ≡ true
    early = let value = (kill back).1 s some.0 some.1 in let out = (kill back).0 in by_there n s q some.0 some.1 (omega (arith, value, out, le))

    by : (b : Bool) → is_some (release_to s (cond b (given_by n q.due) q.due)) ≡ true
    by true = ap is_some (release_given fair.agree.0 n s q.due fair.agree.1) ∙ ap (λ (b : Bool). is_some (cond b (release_to s q.due) None)) early ∙ due
    by false = due

left_was : (m i : ℕ) (s : Bytes) (p : Pub) → IsFair p → is_due s (left_behind m i p) ≡ true → is_due s p ≡ true
left_was m i s p fair due = let some = some_of (release_to s (left_behind m i p).due) due in ap is_some (left_had m i s p some.0 fair some.1)

each_lower : (m i n : ℕ) (ps : List Pub) → Each (λ (q : Pub). q.number < n) ps → Each (λ (q : Pub). q.number < n) (taken_back m i ps)
each_lower m i n [] all = tt
each_lower m i n (q ∷ ps) all = (all.0, each_lower m i n ps all.1)

-- a kill or recall of the item in front of what it leaves
module _ (m n i : ℕ) (le : m ≤ n) (q0 : Pub) (item : q0.item ≡ i) (back0 : takes_back q0.kind ≡ true) (ps : List Pub) (fair : Each IsFair ps) (kills : Each (IsKill m) ps) (reach : Reach ps)
    (lower : Each (λ (q : Pub). q.number < q0.number) ps)
    (new : (p : Pub) (s : Bytes) → IsThere p ps → p.item ≡ i → is_by n (release_to s p.due) ≡ true → is_due s q0 ≡ true) where
  left_new : (p : Pub) (s : Bytes) → IsThere p (taken_back n i ps) → is_first q0.kind ≡ false → p.item ≡ q0.item → is_due s p ≡ true → is_due s q0 ≡ true
  left_new p s there later same due =
      let was = there_left n i p ps there in
      let was_item : (was.0).item ≡ i = sym (ap (λ (x : Pub). x.item) was.2) ∙ same ∙ item in
      new was.0 s was.1 was_item (left_by n i s was.0 (there_get IsFair ps was.0 fair was.1) was_item (sym (ap (is_due s) was.2) ∙ due))

  left_kills : (q p : Pub) (s : Bytes) → IsThere q (taken_back n i ps) → IsThere p (taken_back n i ps) → takes_back q.kind ≡ true → IsBefore q p → is_due s p ≡ true → is_due s q ≡ true
  left_kills q p s tq tp back before due =
      let a = there_left n i q ps tq in
      let b = there_left n i p ps tp in
      let a_back : takes_back (a.0).kind ≡ true = sym (ap (λ (x : Pub). takes_back x.kind) a.2) ∙ back in
      let b_due : is_due s b.0 ≡ true = left_was n i s b.0 (there_get IsFair ps b.0 fair b.1) (sym (ap (is_due s) b.2) ∙ due) in
      let a_due : is_due s a.0 ≡ true = reach.kills a.0 b.0 s a.1 b.1 a_back (was_before q p a.0 b.0 a.2 b.2 before) b_due in
      ap (is_due s) a.2 ∙ kill_left m n i s a.0 le (there_get IsFair ps a.0 fair a.1) (there_get (IsKill m) ps a.0 kills a.1) a_back a_due
    where
      was_before : (q p a b : Pub) → q ≡ left_behind n i a → p ≡ left_behind n i b → IsBefore q p → IsBefore a b
      was_before q p a b qa pb before = (
        sym (ap (λ (x : Pub). x.item) pb) ∙ before.0 ∙ ap (λ (x : Pub). x.item) qa,
        let one : p.number ≡ b.number = ap (λ (x : Pub). x.number) pb in let two : q.number ≡ a.number = ap (λ (x : Pub). x.number) qa in omega (arith, one, two, before.1),
      )

  left_corrections : (q p : Pub) (s : Bytes) → IsThere q (taken_back n i ps) → IsThere p (taken_back n i ps) → is_first q.kind ≡ false → IsBefore q p → is_due s p ≡ true
      → (is_due s q ≡ true) ⊎ TakenIn (q0 ∷ taken_back n i ps) s q
  left_corrections q p s tq tp later before due =
      let a = there_left n i q ps tq in
      let b = there_left n i p ps tp in
      let q_item : q.item ≡ (a.0).item = ap (λ (x : Pub). x.item) a.2 in
      let p_item : p.item ≡ (b.0).item = ap (λ (x : Pub). x.item) b.2 in
      let q_number : q.number ≡ (a.0).number = ap (λ (x : Pub). x.number) a.2 in
      let p_number : p.number ≡ (b.0).number = ap (λ (x : Pub). x.number) b.2 in
      let items : (b.0).item ≡ (a.0).item = sym p_item ∙ before.0 ∙ q_item in
      let numbers : (b.0).number < (a.0).number = omega (arith, q_number, p_number, before.1) in
      elim (q.item == i) as (λ c. (q.item == i) ≡ c → (is_due s q ≡ true) ⊎ TakenIn (q0 ∷ taken_back n i ps) s q) [
        | true ↦ λ yes.
            let here : q.item ≡ i = (Decides-eqb q.item i).0 yes in
            let less = there_get (λ (x : Pub). x.number < q0.number) ps a.0 lower a.1 in
            inr (q0, (0, refl), item ∙ sym here, back0, omega (arith, less, q_number), left_new p s tp (no_first q0.kind back0) (before.0 ∙ here ∙ sym item) due)
        | false ↦ λ other.
            let a_other : ((a.0).item == i) ≡ false = sym (ap (λ (j : ℕ). j == i) q_item) ∙ other in
            let b_other : ((b.0).item == i) ≡ false = ap (λ (j : ℕ). j == i) items ∙ a_other in
            let b_due : is_due s b.0 ≡ true = sym (other_left n i s b.0 b_other) ∙ sym (ap (is_due s) b.2) ∙ due in
            let a_later : is_first (a.0).kind ≡ false = sym (ap (λ (x : Pub). is_first x.kind) a.2) ∙ later in
            go_on q a.0 s a.2 a_other (reach.corrections a.0 b.0 s a.1 b.1 a_later (items, numbers) b_due)
      ] refl
    where
      go_on : (q a : Pub) (s : Bytes) → q ≡ left_behind n i a → (a.item == i) ≡ false → (is_due s a ≡ true) ⊎ TakenIn ps s a → (is_due s q ≡ true) ⊎ TakenIn (q0 ∷ taken_back n i ps) s q
      go_on q a s is other (inl due) = inl (ap (is_due s) is ∙ other_left n i s a other ∙ due)
      go_on q a s is other (inr taken) =
          let t : Pub = taken.0 in
          let t_other : (t.item == i) ≡ false = ap (λ (j : ℕ). j == i) taken.2 ∙ other in
          let q_number : q.number ≡ a.number = ap (λ (x : Pub). x.number) is in
          inr (left_behind n i t, there_more (left_behind n i t) q0 (taken_back n i ps) (left_there n i t ps taken.1), taken.2 ∙ sym (ap (λ (x : Pub). x.item) is), taken.3, omega (arith, q_number, taken.4), other_left n i s t t_other ∙ taken.5)

  reach_taken : Reach (q0 ∷ taken_back n i ps)
  reach_taken = reach_new q0 (taken_back n i ps) (each_lower n i q0.number ps lower) left_new left_kills left_corrections

-- ---- an entry

new_kill : (h : History) (w : Made) (issue : Issue) (it : Item) (m : ℕ) → issue.release ≤ m → IsKill m (pub_of h w issue it)
new_kill h w issue it m le back = (le, λ s r is. new_release h w issue it s r is ∙ taken_release h w.standing issue.kind issue.item issue.release s back)

no_kill : (h : History) (w : Made) (issue : Issue) (it : Item) (m : ℕ) → takes_back issue.kind ≡ false → IsKill m (pub_of h w issue it)
no_kill h w issue it m other back = absurd (true≢false (sym back ∙ other))

module _ (h : History) (n m : ℕ) (le : n ≤ m) (fair : Each IsFair (standing h)) (known : Each (IsToKnown h) (standing h)) (kills : Each (IsKill n) (standing h)) (reach : Reach (standing h)) where
  lower : (issue : Issue) (it : Item) → Each (λ (q : Pub). q.number < (pub_of h (made h) issue it).number) (standing h)
  lower issue it = each_map (NumberTo (length (made h).pubs)) (λ (q : Pub). q.number < length (made h).pubs + 1) (standing h) (λ q to. omega (arith, to.1)) (standing_numbers h)

  first_step : (issue : Issue) (o : Option Item) → issue.kind ≡ kind.First → Reach (pubs_of_item h (made h) issue o ++ standing h)
  first_step issue None is = reach
  first_step issue (Some it) is = reach_more (pub_of h (made h) issue it) (standing h) reach (lower issue it) (λ p s there later item due. absurd (true≢false (sym (ap is_first is) ∙ later)))

  correct_step : (issue : Issue) (o : Option Item) → issue.kind ≡ kind.Correct → Reach (pubs_of_item h (made h) issue o ++ standing h)
  correct_step issue None is = reach
  correct_step issue (Some it) is =
      reach_more (pub_of h (made h) issue it) (standing h) reach (lower issue it)
      (λ p s there later item due.
      new_due h (made h) issue it s (there_get (IsToKnown h) (standing h) p known there s due)
      (ap (λ (k : Kind). is_due_by h (standing h) k issue.item (pub_of h (made h) issue it).story issue.release issue.targets s) is
      ∙ or_right (permitted h (pub_of h (made h) issue it).story issue.targets s) _ (had_one (standing h) there.0 issue.item p s there.1 item due)))

  taken_rule : (issue : Issue) (it : Item) (s : Bytes) → takes_back issue.kind ≡ true → had_by issue.release (standing h) issue.item s ≡ true
      → is_due_by h (standing h) issue.kind issue.item (pub_of h (made h) issue it).story issue.release issue.targets s ≡ true
  taken_rule issue it s back given = by issue.kind back
    where
      by : (k : Kind) → takes_back k ≡ true → is_due_by h (standing h) k issue.item (pub_of h (made h) issue it).story issue.release issue.targets s ≡ true
      by kind.Kill back = given
      by kind.Recall back = given
      by kind.First back = absurd (true≢false (sym back))
      by kind.Correct back = absurd (true≢false (sym back))

  taken_step : (issue : Issue) (o : Option Item) → is_some o ≡ true → issue.release ≡ m → takes_back issue.kind ≡ true → Reach (pubs_of_item h (made h) issue o ++ taken_back m issue.item (standing h))
  taken_step issue None there is back = absurd (true≢false (sym there))
  taken_step issue (Some it) there is back =
      reach_taken n m issue.item le (pub_of h (made h) issue it) refl back (standing h) fair kills reach (lower issue it)
      (λ p s here item given.
      new_due h (made h) issue it s (there_get (IsToKnown h) (standing h) p known here s (had_some (release_to s p.due) given))
      (taken_rule issue it s back (had_by_one issue.release (standing h) here.0 issue.item p s here.1 item (ap (λ (j : ℕ). is_by j (release_to s p.due)) is ∙ given))))
    where
      had_some : (o : Option ℕ) → is_by m o ≡ true → is_some o ≡ true
      had_some None given = given
      had_some (Some r) given = refl

  command_step : (caller : Bytes) (number : ℕ) (command : Command) → first_missing (missing h command) ≡ None
      → Reach (pubs_of_issue h (made h) (issued_by_command (made h) m caller command) ++ kept_by m (Request caller number command) (standing h))
  command_step caller number (Flash story targets) none =
      let o : Option Item = made_by (Flash story targets) in first_step (first_issue (length (made h).items + 1) o m targets) o refl
  command_step caller number (Publish i session schedule embargo targets) none =
      let o : Option Item = item_after (made h) m caller (Publish i session schedule embargo targets) in first_step (first_issue i o (release_at m schedule embargo) targets) o refl
  command_step caller number (Correct i session story) none =
      let o : Option Item = item_after (made h) m caller (Correct i session story) in correct_step (later_issue kind.Correct (made h) i o m None) o refl
  command_step caller number (Kill i session note) none =
      let o : Option Item = item_after (made h) m caller (Kill i session note) in
      taken_step (later_issue kind.Kill (made h) i o m (Some note)) o (still_there _ (item h i) (item_there (item h i) none)) refl refl
  command_step caller number (Recall i session note) none =
      let o : Option Item = item_after (made h) m caller (Recall i session note) in
      taken_step (later_issue kind.Recall (made h) i o m (Some note)) o (still_there _ (item h i) (item_there (item h i) none)) refl refl
  command_step caller number (Deschedule i) none = reach_filter i (standing h) reach
  command_step caller number _ none = reach

  effect_step : (name : Bytes) (come : Incoming) (effect : Effect) → Reach (pubs_of_issue h (made h) (issued_by_effect (made h) m name come effect) ++ standing h)
  effect_step name come (NewAt inserted true) =
      let o : Option Item = Some (routed_item name come inserted true) in first_step (first_issue (length (made h).items + 1) o (max m come.embargo) []) o refl
  effect_step name come _ = reach

  reach_step : (act : Act) → Follows h act m → Reach (pubs_of_issue h (made h) (issued_by h (made h) m act) ++ kept_by m act (standing h))
  reach_step (Request caller number command) follows = command_step caller number command (missing_row h caller number command m follows.1)
  reach_step (Ingest name come) follows = effect_step name come (effect_by h (made h) name come m)
  reach_step _ follows = reach

-- kills and recalls that an entry makes
module _ (h : History) (m : ℕ) where
  item_kills : (issue : Issue) (o : Option Item) → ((it : Item) → IsKill m (pub_of h (made h) issue it)) → Each (IsKill m) (pubs_of_item h (made h) issue o)
  item_kills issue None new = tt
  item_kills issue (Some it) new = (new it, tt)

  command_kills : (caller : Bytes) (command : Command) → Each (IsKill m) (pubs_of_issue h (made h) (issued_by_command (made h) m caller command))
  command_kills caller (Flash story targets) =
      let o : Option Item = made_by (Flash story targets) in let issue : Issue = first_issue (length (made h).items + 1) o m targets in item_kills issue o (λ it. no_kill h (made h) issue it m refl)
  command_kills caller (Publish i session schedule embargo targets) =
      let o : Option Item = item_after (made h) m caller (Publish i session schedule embargo targets) in
      let issue : Issue = first_issue i o (release_at m schedule embargo) targets in item_kills issue o (λ it. no_kill h (made h) issue it m refl)
  command_kills caller (Correct i session story) =
      let o : Option Item = item_after (made h) m caller (Correct i session story) in
      let issue : Issue = later_issue kind.Correct (made h) i o m None in item_kills issue o (λ it. no_kill h (made h) issue it m refl)
  command_kills caller (Kill i session note) =
      let o : Option Item = item_after (made h) m caller (Kill i session note) in
      let issue : Issue = later_issue kind.Kill (made h) i o m (Some note) in item_kills issue o (λ it. new_kill h (made h) issue it m (omega arith))
  command_kills caller (Recall i session note) =
      let o : Option Item = item_after (made h) m caller (Recall i session note) in
      let issue : Issue = later_issue kind.Recall (made h) i o m (Some note) in item_kills issue o (λ it. new_kill h (made h) issue it m (omega arith))
  command_kills caller _ = tt

  effect_kills : (name : Bytes) (come : Incoming) (effect : Effect) → Each (IsKill m) (pubs_of_issue h (made h) (issued_by_effect (made h) m name come effect))
  effect_kills name come (NewAt inserted true) =
      let o : Option Item = Some (routed_item name come inserted true) in
      let issue : Issue = first_issue (length (made h).items + 1) o (max m come.embargo) [] in item_kills issue o (λ it. no_kill h (made h) issue it m refl)
  effect_kills name come _ = tt

  new_kills : (act : Act) → Each (IsKill m) (pubs_of_issue h (made h) (issued_by h (made h) m act))
  new_kills (Request caller number command) = command_kills caller command
  new_kills (Ingest name come) = effect_kills name come (effect_by h (made h) name come m)
  new_kills _ = tt

kill_later : (n m : ℕ) (q : Pub) → n ≤ m → IsKill n q → IsKill m q
kill_later n m q le kill back = let known = kill back in (omega (arith, known.0, le), known.1)

-- what is left of a publication that is fair and, if it takes back, a kill
FairKill : ℕ → Pub → Type 0
FairKill m q = IsFair q × IsKill m q

pub standing_kills : (h : History) → IsLegal h → Each (IsKill (moment h)) (standing h)
unfolding FairKill
standing_kills [] legal = tt
standing_kills (e ∷ h) legal =
    let old = paired (standing h) (standing_are_fair h) (each_map (IsKill (moment h)) (IsKill e.moment) (standing h) (λ q. kill_later (moment h) e.moment q legal.1) (standing_kills h legal.0)) in
    each_append (IsKill e.moment) (new_pubs e h) (kept_by e.moment e.act (standing h))
    (new_kills h e.moment e.act)
    (each_map (FairKill e.moment) (IsKill e.moment) (kept_by e.moment e.act (standing h)) (λ q both. both.1)
    (each_kept (FairKill e.moment) left e.moment e.act (standing h) old))
  where
    paired : (ps : List Pub) → Each IsFair ps → Each (IsKill e.moment) ps → Each (FairKill e.moment) ps
    paired [] one two = tt
    paired (p ∷ ps) one two = ((one.0, two.0), paired ps one.1 two.1)

    left : (m i : ℕ) (q : Pub) → FairKill e.moment q → FairKill e.moment (left_behind m i q)
    left m i q both = (fair_left m i q both.0, λ back. ((both.1 back).0, λ s r is. (both.1 back).1 s r (left_had m i s q r both.0 is)))

pub reach_of : (h : History) → IsLegal h → Reach (standing h)
reach_of [] legal = record { kills = λ q p s there. absurd (none_some q there.1); corrections = λ q p s there. absurd (none_some q there.1) }
reach_of (e ∷ h) legal =
    reach_step h (moment h) e.moment legal.1 (standing_are_fair h) (standing_are_known h) (standing_kills h legal.0) (reach_of h legal.0) e.act legal.2

-- ---- what stands for the subscriber and is released to it is in the feed

abbrev IsIn : Dispatch → List Dispatch → Type 0
IsIn d ds = (k : ℕ) × (slice_get ds k ≡ Some d)

in_filter : (t : Dispatch → Bool) (ds : List Dispatch) (d : Dispatch) → IsIn d ds → t d ≡ true → IsIn d (filter t ds)
in_filter t ds d there passes = by ds there.0 there.1
  where
    by : (l : List Dispatch) (k : ℕ) → slice_get l k ≡ Some d → IsIn d (filter t l)
    by [] k is = absurd (none_some d is)
    by (x ∷ l) zero is = let passed : t x ≡ true = ap t (some_is x d is) ∙ passes in rw passed (0, is)
    by (x ∷ l) (suc k) is =
        let rest = by l k is in
        elim (t x) as (λ b. IsIn d (cond b (x ∷ filter t l) (filter t l))) [ true ↦ (suc rest.0, rest.1) | false ↦ rest ]

place_has : (d : Dispatch) (ds : List Dispatch) → IsIn d (inserted d ds)
place_has d [] = (0, refl)
place_has d (e ∷ es) =
    let rest = place_has d es in
    elim (nat_lt d.release e.release) as (λ b. IsIn d (cond b (d ∷ e ∷ es) (e ∷ inserted d es))) [ true ↦ (0, refl) | false ↦ (suc rest.0, rest.1) ]

place_keeps : (x d : Dispatch) (ds : List Dispatch) → IsIn d ds → IsIn d (inserted x ds)
place_keeps x d ds there = by ds there.0 there.1
  where
    by : (l : List Dispatch) (k : ℕ) → slice_get l k ≡ Some d → IsIn d (inserted x l)
    by [] k is = absurd (none_some d is)
    by (e ∷ l) zero is = elim (nat_lt x.release e.release) as (λ b. IsIn d (cond b (x ∷ e ∷ l) (e ∷ inserted x l))) [ true ↦ (1, is) | false ↦ (0, is) ]
    by (e ∷ l) (suc k) is =
        let rest = by l k is in
        elim (nat_lt x.release e.release) as (λ b. IsIn d (cond b (x ∷ e ∷ l) (e ∷ inserted x l))) [ true ↦ (suc (suc k), is) | false ↦ (suc rest.0, rest.1) ]

put_keeps : (p : Pub) (o : Option ℕ) (d : Dispatch) (ds : List Dispatch) → IsIn d ds → IsIn d (put p o ds)
put_keeps p None d ds there = there
put_keeps p (Some r) d ds there = place_keeps (dispatch p r) d ds there

due_has : (s : Bytes) (ps : List Pub) (q : Pub) (r : ℕ) → IsThere q ps → release_to s q.due ≡ Some r → IsIn (dispatch q r) (due_to s ps)
due_has s ps q r there is = by ps there.0 there.1
  where
    by : (l : List Pub) (k : ℕ) → slice_get l k ≡ Some q → IsIn (dispatch q r) (due_to s l)
    by [] k at = absurd (none_some q at)
    by (p ∷ l) zero at =
        let equal : p ≡ q = some_is p q at in
        let due : release_to s p.due ≡ Some r = ap (λ (x : Pub). release_to s x.due) equal ∙ is in
        rw due (subst (λ (x : Pub). IsIn (dispatch x r) (inserted (dispatch p r) (due_to s l))) equal (place_has (dispatch p r) (due_to s l)))
    by (p ∷ l) (suc k) at = put_keeps p (release_to s p.due) (dispatch q r) (due_to s l) (by l k at)

feed_has : (h : History) (s : Bytes) (q : Pub) (r : ℕ) → IsThere q (standing h) → release_to s q.due ≡ Some r → r ≤ moment h → Has (feed h s) q
feed_has h s q r there is le =
    let found = in_filter (is_out (moment h)) (due_to s (standing h)) (dispatch q r) (due_has s (standing h) q r there is) (grind (arith, nat_tests, le)) in (r, found.0, found.1)

waiting_has : (h : History) (s : Bytes) (q : Pub) (r : ℕ) → IsThere q (standing h) → release_to s q.due ≡ Some r → moment h < r → Has (waiting h s) q
waiting_has h s q r there is lt =
    let found = in_filter (is_waiting (moment h)) (due_to s (standing h)) (dispatch q r) (due_has s (standing h) q r there is) (grind (arith, nat_tests, lt)) in (r, found.0, found.1)

-- an entry of a feed is a publication that stands for the subscriber
abbrev IsOf : History → Bytes → Dispatch → Type 0
IsOf h s d = (p : Pub) × IsThere p (standing h) × (is_due s p ≡ true) × (d.shown ≡ shown p)

each_there : (ps : List Pub) → Each (λ (p : Pub). IsThere p ps) ps
each_there [] = tt
each_there (p ∷ ps) = ((0, refl), each_map (λ (q : Pub). IsThere q ps) (λ (q : Pub). IsThere q (p ∷ ps)) ps (λ q there. there_more q p ps there) (each_there ps))

feed_is_of : (h : History) (s : Bytes) → Each (IsOf h s) (feed h s)
feed_is_of h s = each_feed (λ (p : Pub). IsThere p (standing h)) (IsOf h s) h s (λ p r there is. (p, there, some_there s p r is, refl)) (each_there (standing h))

-- a kill or recall that is due to the subscriber is in its feed
kill_in_feed : (h : History) (s : Bytes) (q : Pub) → IsLegal h → IsThere q (standing h) → takes_back q.kind ≡ true → is_due s q ≡ true → Has (feed h s) q
kill_in_feed h s q legal there back due =
    let kill = there_get (IsKill (moment h)) (standing h) q (standing_kills h legal) there back in
    let some = some_of (release_to s q.due) due in
    let value = kill.1 s some.0 some.1 in
    feed_has h s q some.0 there some.1 (omega (arith, value, kill.0))

before_of : (d : Dispatch) (p q : Pub) → d.shown ≡ shown p → d.shown.item ≡ q.item → d.shown.number < q.number → IsBefore q p
before_of d p q is item less = (sym (ap (λ (x : Publication). x.item) is) ∙ item, let same : d.shown.number ≡ p.number = ap (λ (x : Publication). x.number) is in omega (arith, same, less))

pub kills_reach : KillsReach
kills_reach h legal s i j d q one two item back less =
    let of = each_get (IsOf h s) (feed h s) i d (feed_is_of h s) one in
    let due = (reach_of h legal).kills q of.0 s (j, two) of.1 back (before_of d of.0 q of.3 item less) of.2 in
    kill_in_feed h s q legal (j, two) back due

pub corrections_reach : CorrectionsReach
corrections_reach h legal s i j d q one two item later less =
    let of = each_get (IsOf h s) (feed h s) i d (feed_is_of h s) one in
    by ((reach_of h legal).corrections q of.0 s (j, two) of.1 later (before_of d of.0 q of.3 item less) of.2)
  where
    when : (r : ℕ) → release_to s q.due ≡ Some r → Has (feed h s) q ⊎ Has (waiting h s) q
    when r is = elim (cases_lt (moment h) r) [ inl lt ↦ inr (waiting_has h s q r (j, two) is lt) | inr le ↦ inl (feed_has h s q r (j, two) is le) ]

    by : (is_due s q ≡ true) ⊎ TakenIn (standing h) s q → (Has (feed h s) q ⊎ Has (waiting h s) q) ⊎ IsTakenBack h s q
    by (inl due) = let some = some_of (release_to s q.due) due in inl (when some.0 some.1)
    by (inr taken) = inr ((taken.1).0, taken.0, (taken.1).1, taken.2, taken.3, taken.4, kill_in_feed h s taken.0 legal taken.1 taken.3 taken.5)
