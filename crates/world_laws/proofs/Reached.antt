-- A publication is due to those whom it reaches.
use Rattle.std.proofs.Common.{◌≡◌, ◌==◌, ℕ, zero, suc, ◌+◌, ◌≤◌, ◌⊎◌, inl, inr, max, min, Bool, true, false, ◌&&◌, ◌||◌, cond, Option, Some, None, List, [], ◌∷◌, refl, sym, ap, ◌∙◌, subst, arith}
use Rattle.std.specs.Prelude.{slice_get, is_some, unwrap_or}
use Rattle.std.specs.List.{filter}
use Rattle.std.proofs.lemmas.Bool.{cases_lt}
use Rattle.std.proofs.lemmas.Bool.Decides.{nat_tests, Decides-eqb}
use mathlib.Core.Bool.{true≢false}
use Rattle.news_types.specs.declared.words.Kind.{Kind}
use Rattle.news_types.specs.declared.words.Kind.TheVariants as kind
use Rattle.news_types.specs.declared.story.Story.{Story}
use Rattle.news_types.specs.Names.{Bytes, same, is_in}
use Rattle.news_types.specs.History.{History}
use Rattle.news_types.specs.Products.{Subscriber, is_subscriber, subscriber, subscribers, permitted, permitted_if_there, lag}
use Rattle.news_types.specs.Due.{Pub, release_to, is_due, is_by, had, had_by, latest, is_due_by, release_for}
use Rattle.news_types.specs.Items.{Item}
use Rattle.news_types.specs.Publications.{Issue, made, standing, pub_of}
use Rattle.news_types.proofs.Members.{same_is, some_is, none_some, each_get}
use Rattle.news_types.proofs.Dues.{listed_due}
use Rattle.news_types.proofs.Subscribed.{IsToKnown, listed_is, standing_are_known}
use Rattle.world_laws.proofs.Reach.{back_in_filter}
use Rattle.world_laws.specs.Facts.{StandsFor, delayed, IsLatest, Reaches, DueToThoseReached}
use Rattle.world_laws.proofs.Published.{made_of}

-- ---- what stands of an item for a subscriber

-- one of these publications of the item is due to the subscriber, with this release
abbrev StandsIn : List Pub → ℕ → Bytes → ℕ → Type 0
StandsIn ps i s r = (k : ℕ) × (p : Pub) × (slice_get ps k ≡ Some p) × (p.item ≡ i) × (release_to s p.due ≡ Some r)

in_more : (q : Pub) (ps : List Pub) (i : ℕ) (s : Bytes) (r : ℕ) → StandsIn ps i s r → StandsIn (q ∷ ps) i s r
in_more q ps i s r there = (suc there.0, there.1, there.2, there.3, there.4)

none_in : (i : ℕ) (s : Bytes) (r : ℕ) → StandsIn [] i s r → ⊥
none_in i s r there = none_some there.1 there.2

-- it is the first of them, or one of the others
in_cases : (q : Pub) (ps : List Pub) (i : ℕ) (s : Bytes) (r : ℕ) → StandsIn (q ∷ ps) i s r → ((q.item ≡ i) × (release_to s q.due ≡ Some r)) ⊎ StandsIn ps i s r
in_cases q ps i s r there = by there.0 there.2
  where
    by : (k : ℕ) → slice_get (q ∷ ps) k ≡ Some there.1 → ((q.item ≡ i) × (release_to s q.due ≡ Some r)) ⊎ StandsIn ps i s r
    by zero is = let same = some_is q there.1 is in inl (ap (λ (x : Pub). x.item) same ∙ there.3, ap (λ (x : Pub). release_to s x.due) same ∙ there.4)
    by (suc k) is = inr (k, there.1, is, there.3, there.4)

both : (a b : Bool) → a ≡ true → b ≡ true → (a && b) ≡ true
both true b one two = two
both false b one two = absurd (true≢false (sym one))

split : (a b : Bool) → (a && b) ≡ true → (a ≡ true) × (b ≡ true)
split true true e = (refl, refl)
split true false e = absurd (true≢false (sym e))
split false b e = absurd (true≢false (sym e))

or_split : (a b : Bool) → (a || b) ≡ true → (a ≡ true) ⊎ (b ≡ true)
or_split true b e = inl refl
or_split false b e = inr e

or_left : (a b : Bool) → a ≡ true → (a || b) ≡ true
or_left true b is = refl
or_left false b is = absurd (true≢false (sym is))

or_right : (a b : Bool) → b ≡ true → (a || b) ≡ true
or_right true b is = refl
or_right false b is = is

some_of : (o : Option ℕ) → is_some o ≡ true → (r : ℕ) × (o ≡ Some r)
some_of None there = absurd (true≢false (sym there))
some_of (Some r) there = (r, refl)

by_of : (m : ℕ) (o : Option ℕ) → is_by m o ≡ true → (r : ℕ) × (o ≡ Some r) × (r ≤ m)
by_of m None there = absurd (true≢false (sym there))
by_of m (Some r) there = (r, refl, grind (arith, nat_tests, there))

of_by : (m : ℕ) (o : Option ℕ) (r : ℕ) → o ≡ Some r → r ≤ m → is_by m o ≡ true
of_by m o r is le = ap (is_by m) is ∙ grind (arith, nat_tests, le)

item_is : (q : Pub) (i : ℕ) → (q.item == i) ≡ true → q.item ≡ i
item_is q i = (Decides-eqb q.item i).0

is_item : (q : Pub) (i : ℕ) → q.item ≡ i → (q.item == i) ≡ true
is_item q i = (Decides-eqb q.item i).1

had_in : (ps : List Pub) (i : ℕ) (s : Bytes) → had ps i s ≡ true → (r : ℕ) × StandsIn ps i s r
had_in [] i s is = absurd (true≢false (sym is))
had_in (q ∷ ps) i s is = elim (or_split (q.item == i && is_due s q) (had ps i s) is) [
  | inl here ↦ let two = split (q.item == i) (is_due s q) here in let some = some_of (release_to s q.due) two.1 in (some.0, (0, q, refl, item_is q i two.0, some.1))
  | inr rest ↦ let old = had_in ps i s rest in (old.0, in_more q ps i s old.0 old.1)
]

in_had : (ps : List Pub) (i : ℕ) (s : Bytes) (r : ℕ) → StandsIn ps i s r → had ps i s ≡ true
in_had [] i s r there = absurd (none_in i s r there)
in_had (q ∷ ps) i s r there = elim (in_cases q ps i s r there) [
  | inl here ↦ or_left (q.item == i && is_due s q) (had ps i s) (both (q.item == i) (is_due s q) (is_item q i here.0) (ap is_some here.1))
  | inr rest ↦ or_right (q.item == i && is_due s q) (had ps i s) (in_had ps i s r rest)
]

had_by_in : (m : ℕ) (ps : List Pub) (i : ℕ) (s : Bytes) → had_by m ps i s ≡ true → (r : ℕ) × StandsIn ps i s r × (r ≤ m)
had_by_in m [] i s is = absurd (true≢false (sym is))
had_by_in m (q ∷ ps) i s is = elim (or_split (q.item == i && is_by m (release_to s q.due)) (had_by m ps i s) is) [
  | inl here ↦ let two = split (q.item == i) (is_by m (release_to s q.due)) here in let some = by_of m (release_to s q.due) two.1 in (some.0, (0, q, refl, item_is q i two.0, some.1), some.2)
  | inr rest ↦ let old = had_by_in m ps i s rest in (old.0, in_more q ps i s old.0 old.1, old.2)
]

in_had_by : (m : ℕ) (ps : List Pub) (i : ℕ) (s : Bytes) (r : ℕ) → StandsIn ps i s r → r ≤ m → had_by m ps i s ≡ true
in_had_by m [] i s r there le = absurd (none_in i s r there)
in_had_by m (q ∷ ps) i s r there le = elim (in_cases q ps i s r there) [
  | inl here ↦ or_left (q.item == i && is_by m (release_to s q.due)) (had_by m ps i s) (both (q.item == i) (is_by m (release_to s q.due)) (is_item q i here.0) (of_by m (release_to s q.due) r here.1 le))
  | inr rest ↦ or_right (q.item == i && is_by m (release_to s q.due)) (had_by m ps i s) (in_had_by m ps i s r rest le)
]

-- the latest is none or that of one of them, and no other is later
latest_in : (ps : List Pub) (i : ℕ) (s : Bytes) → (latest ps i s ≡ 0) ⊎ StandsIn ps i s (latest ps i s)
latest_in [] i s = inl refl
latest_in (q ∷ ps) i s = by (q.item == i) (release_to s q.due) refl refl (latest_in ps i s)
  where
    greatest : (r : ℕ) → (q.item == i) ≡ true → release_to s q.due ≡ Some r → (latest ps i s ≡ 0) ⊎ StandsIn ps i s (latest ps i s) → (max r (latest ps i s) ≡ 0) ⊎ StandsIn (q ∷ ps) i s (max r (latest ps i s))
    greatest r here due rest = elim (cases_lt r (latest ps i s)) [
      | inl lt ↦
          let value : max r (latest ps i s) ≡ latest ps i s = omega (arith, lt) in
          elim rest [
            | inl none ↦ absurd (omega (arith, lt, none))
            | inr old ↦ inr (subst (StandsIn (q ∷ ps) i s) (sym value) (in_more q ps i s (latest ps i s) old))
          ]
      | inr le ↦
          let value : max r (latest ps i s) ≡ r = omega (arith, le) in
          inr (subst (StandsIn (q ∷ ps) i s) (sym value) (0, q, refl, item_is q i here, due))
    ]

    same : (latest ps i s ≡ 0) ⊎ StandsIn ps i s (latest ps i s) → (latest ps i s ≡ 0) ⊎ StandsIn (q ∷ ps) i s (latest ps i s)
    same (inl none) = inl none
    same (inr old) = inr (in_more q ps i s (latest ps i s) old)

    by : (b : Bool) (o : Option ℕ) → (q.item == i) ≡ b → release_to s q.due ≡ o → (latest ps i s ≡ 0) ⊎ StandsIn ps i s (latest ps i s)
        → (cond b (max (unwrap_or o 0) (latest ps i s)) (latest ps i s) ≡ 0) ⊎ StandsIn (q ∷ ps) i s (cond b (max (unwrap_or o 0) (latest ps i s)) (latest ps i s))
    by false o here due rest = same rest
    by true None here due rest = let value : max 0 (latest ps i s) ≡ latest ps i s = omega arith in rw value (same rest)
    by true (Some r) here due rest = greatest r here due rest

in_latest : (ps : List Pub) (i : ℕ) (s : Bytes) (r : ℕ) → StandsIn ps i s r → r ≤ latest ps i s
in_latest [] i s r there = absurd (none_in i s r there)
in_latest (q ∷ ps) i s r there = elim (in_cases q ps i s r there) [
  | inl here ↦ let at = is_item q i here.0 in rw (at, here.1) (omega arith)
  | inr rest ↦ more (q.item == i) (in_latest ps i s r rest)
]
  where
    more : (b : Bool) → r ≤ latest ps i s → r ≤ cond b (max (unwrap_or (release_to s q.due) 0) (latest ps i s)) (latest ps i s)
    more true le = omega (arith, le)
    more false le = le

-- ---- whom the rule reaches

is_latest : (h : History) (i : ℕ) (s : Bytes) (first : ℕ) → IsLatest h i s first (max first (latest (standing h) i s))
is_latest h i s first = record {
  from = omega arith;
  behind = λ earlier there. let le = in_latest (standing h) i s earlier there in omega (arith, le);
  one = elim (cases_lt first (latest (standing h) i s)) [
    | inl lt ↦
        let value : max first (latest (standing h) i s) ≡ latest (standing h) i s = omega (arith, lt) in
        elim (latest_in (standing h) i s) [
          | inl none ↦ absurd (omega (arith, lt, none))
          | inr there ↦ inr (subst (StandsIn (standing h) i s) (sym value) there)
        ]
    | inr le ↦ inl (omega (arith, le))
  ];
}

latest_is : (h : History) (i : ℕ) (s : Bytes) (first r : ℕ) → IsLatest h i s first r → r ≡ max first (latest (standing h) i s)
latest_is h i s first r is =
    let above : latest (standing h) i s ≤ r = elim (latest_in (standing h) i s) [ inl none ↦ omega (arith, none) | inr there ↦ is.behind (latest (standing h) i s) there ] in
    elim is.one [
      | inl same ↦ omega (arith, same, above)
      | inr there ↦ let le = in_latest (standing h) i s r there in omega (arith, le, above, is.from)
    ]

-- the release of a correction
lagged_is : (release lag earlier : ℕ) → max release (max earlier (min (release + lag) 253402300799)) ≡ max (delayed release lag) earlier
lagged_is release lag earlier = omega arith

first_lagged : (release lag : ℕ) → max release (max 0 (min (release + lag) 253402300799)) ≡ delayed release lag
first_lagged release lag = omega arith

-- what the rule says is what is said
abbrev Ruled : Kind → History → ℕ → Story → ℕ → List Bytes → Bytes → ℕ → Type 0
Ruled k h i story release targets s r = (is_due_by h (standing h) k i story release targets s ≡ true) × (r ≡ release_for h (standing h) k i release s)

reaches_by : (h : History) (p : Pub) (s : Bytes) (r : ℕ) (k : Kind) → Ruled k h p.item p.story p.release p.targets s r → Reaches k h p s r
reaches_by h p s r kind.First ruled = (ruled.0, ruled.1 ∙ first_lagged p.release (lag h s))
reaches_by h p s r kind.Correct ruled = (
  elim (or_split (permitted h p.story p.targets s) (had (standing h) p.item s) ruled.0) [ inl may ↦ inl may | inr old ↦ inr (had_in (standing h) p.item s old) ],
  subst (IsLatest h p.item s (delayed p.release (lag h s))) (sym (ruled.1 ∙ lagged_is p.release (lag h s) (latest (standing h) p.item s))) (is_latest h p.item s (delayed p.release (lag h s))),
)
reaches_by h p s r kind.Kill ruled = (had_by_in p.release (standing h) p.item s ruled.0, ruled.1)
reaches_by h p s r kind.Recall ruled = (had_by_in p.release (standing h) p.item s ruled.0, ruled.1)

by_reaches : (h : History) (p : Pub) (s : Bytes) (r : ℕ) (k : Kind) → Reaches k h p s r → Ruled k h p.item p.story p.release p.targets s r
by_reaches h p s r kind.First reaches = (reaches.0, reaches.1 ∙ sym (first_lagged p.release (lag h s)))
by_reaches h p s r kind.Correct reaches = (
  elim reaches.0 [
    | inl may ↦ or_left (permitted h p.story p.targets s) (had (standing h) p.item s) may
    | inr old ↦ or_right (permitted h p.story p.targets s) (had (standing h) p.item s) (in_had (standing h) p.item s old.0 old.1)
  ],
  latest_is h p.item s (delayed p.release (lag h s)) r reaches.1 ∙ sym (lagged_is p.release (lag h s) (latest (standing h) p.item s)),
)
by_reaches h p s r kind.Kill reaches = (in_had_by p.release (standing h) p.item s reaches.0.0 reaches.0.1 reaches.0.2, reaches.1)
by_reaches h p s r kind.Recall reaches = (in_had_by p.release (standing h) p.item s reaches.0.0 reaches.0.1 reaches.0.2, reaches.1)

-- ---- who is due is a subscriber

permitted_known : (h : History) (story : Story) (targets : List Bytes) (s : Bytes) → permitted h story targets s ≡ true → is_subscriber h s ≡ true
permitted_known h story targets s may = by (subscriber h s) may
  where
    by : (o : Option Subscriber) → permitted_if_there h story targets s o ≡ true → is_some o ≡ true
    by None may = may
    by (Some it) may = refl

stands_known : (h : History) (i : ℕ) (s : Bytes) (r : ℕ) → StandsFor h i s r → is_subscriber h s ≡ true
stands_known h i s r there = each_get (IsToKnown h) (standing h) there.0 there.1 (standing_are_known h) there.2 s (ap is_some there.4)

reached_known : (h : History) (p : Pub) (s : Bytes) (r : ℕ) (k : Kind) → Reaches k h p s r → is_subscriber h s ≡ true
reached_known h p s r kind.First reaches = permitted_known h p.story p.targets s reaches.0
reached_known h p s r kind.Correct reaches = elim reaches.0 [ inl may ↦ permitted_known h p.story p.targets s may | inr old ↦ stands_known h p.item s old.0 old.1 ]
reached_known h p s r kind.Kill reaches = stands_known h p.item s reaches.0.0 reaches.0.1
reached_known h p s r kind.Recall reaches = stands_known h p.item s reaches.0.0 reaches.0.1

-- ---- the publication of an entry

due_ruled : (f : Bytes → ℕ) (s : Bytes) (names : List Bytes) (r : ℕ) (o : Option ℕ) → o ≡ cond (is_in s names) (Some (f s)) None → o ≡ Some r → (is_in s names ≡ true) × (r ≡ f s)
due_ruled f s names r o is due = by (is_in s names) refl (sym is ∙ due)
  where
    by : (b : Bool) → is_in s names ≡ b → cond b (Some (f s)) None ≡ Some r → (is_in s names ≡ true) × (r ≡ f s)
    by true there same = (there, sym (some_is (f s) r same))
    by false other none = absurd (none_some r none)

in_passes : (s : Bytes) (t : Bytes → Bool) (names : List Bytes) → is_in s (filter t names) ≡ true → t s ≡ true
in_passes s t [] is = absurd (true≢false (sym is))
in_passes s t (x ∷ names) is = by (t x) (same s x) refl refl is (in_passes s t names)
  where
    by : (b c : Bool) → t x ≡ b → same s x ≡ c → is_in s (cond b (x ∷ filter t names) (filter t names)) ≡ true → (is_in s (filter t names) ≡ true → t s ≡ true) → t s ≡ true
    by true true passed alike there rest = ap t (same_is s x alike) ∙ passed
    by true false passed other there rest = rest (rw other at there)
    by false c failed here there rest = rest there

module _ (h : History) (issue : Issue) (it : Item) (s : Bytes) (r : ℕ) where
  abbrev p : Pub
  p = pub_of h (made h) issue it

  abbrev rule : Bytes → Bool
  rule = is_due_by h (standing h) issue.kind issue.item p.story issue.release issue.targets

  abbrev time : Bytes → ℕ
  time = release_for h (standing h) issue.kind issue.item issue.release

  due_reaches : release_to s p.due ≡ Some r → Reaches issue.kind h p s r
  due_reaches due =
      let ruled = due_ruled time s (filter rule (subscribers h)) r (release_to s p.due) (listed_due time s (filter rule (subscribers h))) due in
      reaches_by h p s r issue.kind (in_passes s rule (subscribers h) ruled.0, ruled.1)

  reaches_due : Reaches issue.kind h p s r → release_to s p.due ≡ Some r
  reaches_due reaches =
      let ruled = by_reaches h p s r issue.kind reaches in
      let listed : is_in s (subscribers h) ≡ true = listed_is h s ∙ reached_known h p s r issue.kind reaches in
      let there = back_in_filter s rule (subscribers h) listed ruled.0 in
      listed_due time s (filter rule (subscribers h)) ∙ ap (λ (b : Bool). cond b (Some (time s)) None) there ∙ ap Some (sym ruled.1)

pub due_to_those_reached : DueToThoseReached
due_to_those_reached e h p is s r =
    let made = made_of e h p is in (
      subst (λ (q : Pub). release_to s q.due ≡ Some r → Reaches q.kind h q s r) made.is (due_reaches h made.issue made.item s r),
      subst (λ (q : Pub). Reaches q.kind h q s r → release_to s q.due ≡ Some r) made.is (reaches_due h made.issue made.item s r),
    )
