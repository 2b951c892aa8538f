-- For whom a publication stands.
use Rattle.std.proofs.Common.{◌≡◌, ◌==◌, IsTrue, length-append, ℕ, ◌+◌, ◌<◌, ◌≤◌, ◌⊎◌, inl, inr, Bool, true, false, not, ◌&&◌, ◌||◌, cond, Option, Some, None, List, [], ◌∷◌, ◌++◌, map, length, refl, sym, ap, ◌∙◌, subst, arith}
use Rattle.std.specs.Prelude.{slice_get, nat_lt}
use Rattle.std.specs.List.{filter}
use Rattle.std.proofs.lemmas.Bool.Decides.{nat_tests, Decides-eqb}
use mathlib.Core.Bool.{true≢false}
use Rattle.news_types.specs.declared.entry.Entry.{Entry}
use Rattle.news_types.specs.declared.entry.Act.{Act}
use Rattle.news_types.specs.declared.entry.Act.TheVariants.{Request}
use Rattle.news_types.specs.declared.command.Command.TheVariants.{Deschedule}
use Rattle.news_types.specs.declared.query.Due.{Due}
use Rattle.news_types.specs.Names.{Bytes, same}
use Rattle.news_types.specs.History.{History}
use Rattle.news_types.specs.Due.{Pub, is_first, is_first_of, takes_back, release_to}
use Rattle.news_types.specs.Publications.{made, pubs, standing}
use Rattle.news_types.specs.Legal.{IsLegal}
use Rattle.news_types.specs.Members.{Each}
use Rattle.news_types.specs.FeedLaws.{is_taken_back, for_whom_it_stands, published, without_descheduled, not_descheduled}
use Rattle.news_types.proofs.Members.{same_is, some_is, none_some, each_append}
use Rattle.news_types.proofs.Bounds.{pubs_grow}
use Rattle.news_types.proofs.Dues.{IsFair, AreOf, release_of_to, new_are_fair}
use Rattle.news_types.proofs.Numbering.{CountsDown, NumberTo, number_at, pub_numbers, pubs_count_down}
use Rattle.news_types.proofs.Standing.{stands_as_said}
use Rattle.world_laws.specs.Facts.{IsDescheduled, IsKilledBefore, StandsWith, IsLeftTo, StandsForThoseLeft}
use Rattle.world_laws.proofs.There.{IsThere, there_cons, there_more, there_get, filter_there, there_filter}

-- ---- lists

there_front : (x : Pub) (ps qs : List Pub) → IsThere x ps → IsThere x (ps ++ qs)
there_front x [] qs there = absurd (none_some x there.1)
there_front x (p ∷ ps) qs there = elim (there_cons x p ps there) [
  | inl same ↦ (0, ap Some (sym same))
  | inr rest ↦ there_more x p (ps ++ qs) (there_front x ps qs rest)
]

there_back : (x : Pub) (ps qs : List Pub) → IsThere x qs → IsThere x (ps ++ qs)
there_back x [] qs there = there
there_back x (p ∷ ps) qs there = there_more x p (ps ++ qs) (there_back x ps qs there)

there_either : (x : Pub) (ps qs : List Pub) → IsThere x (ps ++ qs) → IsThere x ps ⊎ IsThere x qs
there_either x [] qs there = inr there
there_either x (p ∷ ps) qs there = elim (there_cons x p (ps ++ qs) there) [
  | inl same ↦ inl (0, ap Some (sym same))
  | inr rest ↦ elim (there_either x ps qs rest) [ inl front ↦ inl (there_more x p ps front) | inr back ↦ inr back ]
]

there_passes : (t : Pub → Bool) (x : Pub) (ps : List Pub) → IsThere x (filter t ps) → t x ≡ true
there_passes t x [] there = absurd (none_some x there.1)
there_passes t x (p ∷ ps) there = by (t p) refl there (there_passes t x ps)
  where
    by : (b : Bool) → t p ≡ b → IsThere x (cond b (p ∷ filter t ps) (filter t ps)) → (IsThere x (filter t ps) → t x ≡ true) → t x ≡ true
    by false failed there rest = rest there
    by true passed there rest = elim (there_cons x p (filter t ps) there) [ inl same ↦ ap t same ∙ passed | inr old ↦ rest old ]

there_map : (f : Pub → Pub) (x : Pub) (ps : List Pub) → IsThere x (map f ps) → (y : Pub) × IsThere y ps × (x ≡ f y)
there_map f x [] there = absurd (none_some x there.1)
there_map f x (p ∷ ps) there = elim (there_cons x (f p) (map f ps) there) [
  | inl same ↦ (p, (0, refl), same)
  | inr rest ↦ let old = there_map f x ps rest in (old.0, there_more old.0 p ps old.1, old.2)
]

map_there : (f : Pub → Pub) (y : Pub) (ps : List Pub) → IsThere y ps → IsThere (f y) (map f ps)
map_there f y [] there = absurd (none_some y there.1)
map_there f y (p ∷ ps) there = elim (there_cons y p ps there) [
  | inl same ↦ (0, ap (λ (x : Pub). Some (f x)) (sym same))
  | inr rest ↦ there_more (f y) (f p) (map f ps) (map_there f y ps rest)
]

-- ---- what was descheduled

split : (a b : Bool) → (a && b) ≡ true → (a ≡ true) × (b ≡ true)
split true true e = (refl, refl)
split true false e = absurd (true≢false (sym e))
split false b e = absurd (true≢false (sym e))

not_true : (b : Bool) → not b ≡ true → b ≡ true → ⊥
not_true true one two = true≢false (sym one)
not_true false one two = true≢false (sym two)

not_false : (b : Bool) → (b ≡ true → ⊥) → not b ≡ true
not_false true never = absurd (never refl)
not_false false never = refl

-- publications only get more
more_pubs : (newer : List Entry) (h : History) → length (pubs h) ≤ length (pubs (newer ++ h))
more_pubs [] h = omega arith
more_pubs (e ∷ newer) h = let rest = more_pubs newer h in let one = (pubs_grow e (newer ++ h)).0 in omega (arith, rest, one)

tail_is : (e x : Entry) (h g : History) → e ∷ h ≡ x ∷ g → (e ≡ x) × (h ≡ g)
tail_is e x h g same = (cc, cc)

-- what was descheduled behind an entry was so by it or before
later_descheduled : (e : Entry) (h : History) (p : Pub) → IsDescheduled (e ∷ h) p → ((IsTrue (is_first p.kind)) × (p.number ≤ length (pubs h)) × ((caller : Bytes) × (number : ℕ) × (e.act ≡ Request caller number (Deschedule p.item)))) ⊎ IsDescheduled h p
later_descheduled e h p is = by is.newer is.is
  where
    by : (newer : List Entry) → e ∷ h ≡ newer ++ is.entry ∷ is.before → ((IsTrue (is_first p.kind)) × (p.number ≤ length (pubs h)) × ((caller : Bytes) × (number : ℕ) × (e.act ≡ Request caller number (Deschedule p.item)))) ⊎ IsDescheduled h p
    by [] same =
        let two = tail_is e is.entry h is.before same in
        inl (is.first, subst (λ (g : History). p.number ≤ length (pubs g)) (sym two.1) is.behind, (is.caller, is.number, ap (λ (x : Entry). x.act) two.0 ∙ is.act))
    by (x ∷ newer) same =
        let two = tail_is e x h (newer ++ is.entry ∷ is.before) same in
        inr (record { first = is.first; newer = newer; entry = is.entry; before = is.before; is = two.1; behind = is.behind; caller = is.caller; number = is.number; act = is.act })

still_descheduled : (e : Entry) (h : History) (p : Pub) → IsDescheduled h p → IsDescheduled (e ∷ h) p
still_descheduled e h p is = record { first = is.first; newer = e ∷ is.newer; entry = is.entry; before = is.before; is = ap (λ l. e ∷ l) is.is; behind = is.behind; caller = is.caller; number = is.number; act = is.act }

-- an act that leaves the publication among those that are not descheduled
abbrev Leaves : Act → Pub → Type 0
Leaves act p = (caller : Bytes) (number : ℕ) → act ≡ Request caller number (Deschedule p.item) → is_first p.kind ≡ true → ⊥

left_in : (act : Act) (p : Pub) (ps : List Pub) → Leaves act p → IsThere p ps → IsThere p (without_descheduled act ps)
left_in (Request caller number (Deschedule i)) p ps leaves there =
    there_filter (λ q. not (is_first_of i q)) p ps there (not_false (is_first_of i p) (λ goes.
    let both = split (is_first p.kind) (p.item == i) goes in
    leaves caller number (ap (λ (j : ℕ). Request caller number (Deschedule j)) (sym ((Decides-eqb p.item i).0 both.1))) both.0))
left_in (Request caller number command) p ps leaves there = there
left_in _ p ps leaves there = there

in_left : (act : Act) (p : Pub) (ps : List Pub) → IsThere p (without_descheduled act ps) → IsThere p ps × Leaves act p
in_left (Request caller number (Deschedule i)) p ps there = (
  filter_there (λ q. not (is_first_of i q)) p ps there,
  λ c n same first.
      let here : i ≡ p.item = cc in
      let goes : is_first_of i p ≡ true = rw (first, (Decides-eqb p.item i).1 (sym here)) refl in
      not_true (is_first_of i p) (there_passes (λ q. not (is_first_of i q)) p ps there) goes,
)
in_left (Request caller number command) p ps there = (there, λ c n same first. absurd cc)
in_left _ p ps there = (there, λ c n same first. absurd cc)

numbered_to : (h : History) (p : Pub) → IsThere p (pubs h) → p.number ≤ length (pubs h)
numbered_to h p there = (there_get (NumberTo (length (pubs h))) (pubs h) p (pub_numbers h) there).1

-- what an entry publishes has a number that none had before
new_number : (e : Entry) (h : History) (p : Pub) → IsThere p (published e h) → length (pubs h) < p.number
new_number e h p there = by (published e h) there (pubs_count_down (e ∷ h))
  where
    by : (new : List Pub) → IsThere p new → CountsDown (new ++ pubs h) → length (pubs h) < p.number
    by [] there down = absurd (none_some p there.1)
    by (q ∷ new) there down = elim (there_cons p q new there) [
      | inl same ↦
          let number : p.number ≡ length (new ++ pubs h) + 1 = ap (λ (x : Pub). x.number) same ∙ down.0 in
          let more : length (pubs h) ≤ length (new ++ pubs h) = omega (arith, length-append new (pubs h)) in
          omega (arith, number, more)
      | inr rest ↦ by new rest down.1
    ]

behind_few : (h : History) (p : Pub) → IsDescheduled h p → p.number ≤ length (pubs h)
behind_few h p is =
    let one = (pubs_grow is.entry is.before).0 in
    let more = more_pubs is.newer (is.entry ∷ is.before) in
    let whole : length (pubs h) ≡ length (pubs (is.newer ++ is.entry ∷ is.before)) = ap (λ (g : History). length (pubs g)) is.is in
    omega (arith, is.behind, one, more, whole)

-- those that are not descheduled are the publications that were not
undescheduled : (h : History) (p : Pub) → IsThere p (not_descheduled h) → IsThere p (pubs h) × (IsDescheduled h p → ⊥)
undescheduled [] p there = absurd (none_some p there.1)
undescheduled (e ∷ h) p there = by (there_either p (published e h) (without_descheduled e.act (not_descheduled h)) there) (undescheduled h p)
  where
    by : IsThere p (published e h) ⊎ IsThere p (without_descheduled e.act (not_descheduled h)) → (IsThere p (not_descheduled h) → IsThere p (pubs h) × (IsDescheduled h p → ⊥)) → IsThere p (pubs (e ∷ h)) × (IsDescheduled (e ∷ h) p → ⊥)
    by (inl new) before = (
      there_front p (published e h) (pubs h) new,
      λ gone. elim (later_descheduled e h p gone) [
        | inl now ↦ let number = new_number e h p new in omega (arith, now.1, number)
        | inr old ↦ let number = new_number e h p new in let few = behind_few h p old in omega (arith, number, few)
      ],
    )
    by (inr old) before =
        let left = in_left e.act p (not_descheduled h) old in
        let was = before left.0 in (
          there_back p (published e h) (pubs h) was.0,
          λ gone. elim (later_descheduled e h p gone) [
            | inl now ↦ left.1 now.2.0 now.2.1 now.2.2 now.0
            | inr earlier ↦ was.1 earlier
          ],
        )

descheduled_not : (h : History) (p : Pub) → IsThere p (pubs h) → (IsDescheduled h p → ⊥) → IsThere p (not_descheduled h)
descheduled_not [] p there stays = there
descheduled_not (e ∷ h) p there stays = by (there_either p (published e h) (pubs h) there) (λ old. descheduled_not h p old (λ gone. stays (still_descheduled e h p gone)))
  where
    by : IsThere p (published e h) ⊎ IsThere p (pubs h) → (IsThere p (pubs h) → IsThere p (not_descheduled h)) → IsThere p (not_descheduled (e ∷ h))
    by (inl new) before = there_front p (published e h) (without_descheduled e.act (not_descheduled h)) new
    by (inr old) before =
        there_back p (published e h) (without_descheduled e.act (not_descheduled h)) (left_in e.act p (not_descheduled h)
        (λ caller number act first. stays (record { first = first; newer = []; entry = e; before = h; is = refl; behind = numbered_to h p old; caller = caller; number = number; act = act })) (before old))

-- ---- what was killed

killed_is : (all : List Pub) (p : Pub) (r : ℕ) → is_taken_back all p r ≡ true → (q : Pub) × IsThere q all × (takes_back q.kind ≡ true) × (q.item ≡ p.item) × (p.number < q.number) × (q.release < r)
killed_is [] p r is = absurd (true≢false (sym is))
killed_is (q ∷ all) p r is = by (takes_back q.kind && p.item == q.item && nat_lt p.number q.number && nat_lt q.release r) refl is (killed_is all p r)
  where
    by : (b : Bool) → (takes_back q.kind && p.item == q.item && nat_lt p.number q.number && nat_lt q.release r) ≡ b → (b || is_taken_back all p r) ≡ true
        → (is_taken_back all p r ≡ true → (x : Pub) × IsThere x all × (takes_back x.kind ≡ true) × (x.item ≡ p.item) × (p.number < x.number) × (x.release < r))
        → (x : Pub) × IsThere x (q ∷ all) × (takes_back x.kind ≡ true) × (x.item ≡ p.item) × (p.number < x.number) × (x.release < r)
    by true here is rest =
        let a = split (takes_back q.kind && p.item == q.item && nat_lt p.number q.number) (nat_lt q.release r) here in
        let b = split (takes_back q.kind && p.item == q.item) (nat_lt p.number q.number) a.0 in
        let c = split (takes_back q.kind) (p.item == q.item) b.0 in
        (q, (0, refl), c.0, sym ((Decides-eqb p.item q.item).0 c.1), grind (arith, nat_tests, b.1), grind (arith, nat_tests, a.1))
    by false other is rest = let old = rest is in (old.0, there_more old.0 q all old.1, old.2, old.3, old.4, old.5)

is_killed : (all : List Pub) (p : Pub) (r : ℕ) (q : Pub) → IsThere q all → takes_back q.kind ≡ true → q.item ≡ p.item → p.number < q.number → q.release < r → is_taken_back all p r ≡ true
is_killed [] p r q there back item later before = absurd (none_some q there.1)
is_killed (x ∷ all) p r q there back item later before = elim (there_cons q x all there) [
  | inl same ↦ subst (λ (y : Pub). (takes_back y.kind && p.item == y.item && nat_lt p.number y.number && nat_lt y.release r || is_taken_back all p r) ≡ true) same here
  | inr rest ↦ or_right (takes_back x.kind && p.item == x.item && nat_lt p.number x.number && nat_lt x.release r) (is_taken_back all p r) (is_killed all p r q rest back item later before)
]
  where
    or_right : (a b : Bool) → b ≡ true → (a || b) ≡ true
    or_right true b is = refl
    or_right false b is = is

    here : (takes_back q.kind && p.item == q.item && nat_lt p.number q.number && nat_lt q.release r || is_taken_back all p r) ≡ true
    here =
        let a : nat_lt p.number q.number ≡ true = grind (arith, nat_tests, later) in
        let b : nat_lt q.release r ≡ true = grind (arith, nat_tests, before) in
        rw (back, (Decides-eqb p.item q.item).1 (sym item), a, b) refl

killed_before : (h : History) (p : Pub) (r : ℕ) → is_taken_back (pubs h) p r ≡ true → IsKilledBefore h p r
killed_before h p r is =
    let one = killed_is (pubs h) p r is in
    record { place = one.1.0; kill = one.0; there = one.1.1; back = one.2; item = one.3; later = one.4; before = one.5 }

before_killed : (h : History) (p : Pub) (r : ℕ) → IsKilledBefore h p r → is_taken_back (pubs h) p r ≡ true
before_killed h p r is = is_killed (pubs h) p r is.kill (is.place, is.there) is.back is.item is.later is.before

-- ---- who is left

-- the release of those who pass a test of their release
tested : (f : Bytes → ℕ) (t : ℕ → Bool) (s : Bytes) (due : List Due) → AreOf f due → release_to s (filter (λ (d : Due). t d.release) due) ≡ cond (t (f s)) (release_to s due) None
tested f t s [] all = elim (t (f s)) as (λ b. None ≡ cond {A = Option ℕ} b None None) [ true ↦ refl | false ↦ refl ]
tested f t s (d ∷ due) all = by (t d.release) (same s d.subscriber) refl refl (tested f t s due all.1)
  where
    here : same s d.subscriber ≡ true → d.release ≡ f s
    here alike = all.0 ∙ ap f (sym (same_is s d.subscriber alike))

    by : (b c : Bool) → t d.release ≡ b → same s d.subscriber ≡ c → release_to s (filter (λ (d : Due). t d.release) due) ≡ cond (t (f s)) (release_to s due) None
        → release_to s (cond b (d ∷ filter (λ (d : Due). t d.release) due) (filter (λ (d : Due). t d.release) due)) ≡ cond (t (f s)) (cond c (Some d.release) (release_to s due)) None
    by true true passes alike rest = rw alike (let mine : t (f s) ≡ true = sym (ap t (here alike)) ∙ passes in rw mine refl)
    by true false passes other rest = rw other rest
    by false true fails alike rest = let mine : t (f s) ≡ false = sym (ap t (here alike)) ∙ fails in rest ∙ rw mine refl
    by false false fails other rest = rest

abbrev stays : History → Pub → ℕ → Bool
stays h p r = not (is_taken_back (pubs h) p r)

left_to : (h : History) (p : Pub) (s : Bytes) (r : ℕ) → IsFair p → release_to s (for_whom_it_stands (pubs h) p).due ≡ Some r → (release_to s p.due ≡ Some r) × (stays h p r ≡ true)
left_to h p s r fair is = by (stays h p (fair.agree.0 s)) refl (sym (tested fair.agree.0 (stays h p) s p.due fair.agree.1) ∙ is)
  where
    by : (b : Bool) → stays h p (fair.agree.0 s) ≡ b → cond b (release_to s p.due) None ≡ Some r → (release_to s p.due ≡ Some r) × (stays h p r ≡ true)
    by true left due = (due, ap (stays h p) (release_of_to fair.agree.0 s p.due r fair.agree.1 due) ∙ left)
    by false gone none = absurd (none_some r none)

to_left : (h : History) (p : Pub) (s : Bytes) (r : ℕ) → IsFair p → release_to s p.due ≡ Some r → stays h p r ≡ true → release_to s (for_whom_it_stands (pubs h) p).due ≡ Some r
to_left h p s r fair due left =
    let mine : stays h p (fair.agree.0 s) ≡ true = ap (stays h p) (sym (release_of_to fair.agree.0 s p.due r fair.agree.1 due)) ∙ left in
    tested fair.agree.0 (stays h p) s p.due fair.agree.1 ∙ ap (λ (b : Bool). cond b (release_to s p.due) None) mine ∙ due

pubs_are_fair : (h : History) → Each IsFair (pubs h)
pubs_are_fair [] = tt
pubs_are_fair (e ∷ h) = each_append IsFair (published e h) (pubs h) (new_are_fair h (made h) e.moment e.act) (pubs_are_fair h)

-- two publications of one number are one
same_pub : (h : History) (p q : Pub) → IsThere p (pubs h) → IsThere q (pubs h) → p.number ≡ q.number → p ≡ q
same_pub h p q one two same =
    let m = number_at (pubs h) one.0 p (pubs_count_down h) one.1 in
    let n = number_at (pubs h) two.0 q (pubs_count_down h) two.1 in
    let places : one.0 ≡ two.0 = omega (arith, m, n, same) in
    some_is p q (sym one.1 ∙ ap (slice_get (pubs h)) places ∙ two.1)

module _ (h : History) (legal : IsLegal h) (p : Pub) (there : IsThere p (pubs h)) (s : Bytes) (r : ℕ) where
  fair : IsFair p
  fair = there_get IsFair (pubs h) p (pubs_are_fair h) there

  stands_left : StandsWith h p.number s r → IsLeftTo h p s r
  stands_left stands =
      let in_said : IsThere stands.1 (map (for_whom_it_stands (pubs h)) (not_descheduled h)) = subst (IsThere stands.1) (stands_as_said h legal) (stands.0, stands.2) in
      let of = there_map (for_whom_it_stands (pubs h)) stands.1 (not_descheduled h) in_said in
      let kept = undescheduled h of.0 of.1 in
      let number : (of.0).number ≡ p.number = sym (ap (λ (x : Pub). x.number) of.2) ∙ stands.3 in
      let same : of.0 ≡ p = same_pub h of.0 p kept.0 there number in
      let mine : stands.1 ≡ for_whom_it_stands (pubs h) p = of.2 ∙ ap (for_whom_it_stands (pubs h)) same in
      let left = left_to h p s r fair (sym (ap (λ (x : Pub). release_to s x.due) mine) ∙ stands.4) in
      (left.0, (λ gone. kept.1 (subst (IsDescheduled h) (sym same) gone)), (λ killed. not_true (is_taken_back (pubs h) p r) left.1 (before_killed h p r killed)))

  left_stands : IsLeftTo h p s r → StandsWith h p.number s r
  left_stands left =
      let kept = descheduled_not h p there left.1 in
      let in_said = map_there (for_whom_it_stands (pubs h)) p (not_descheduled h) kept in
      let standing_there : IsThere (for_whom_it_stands (pubs h) p) (standing h) = subst (IsThere (for_whom_it_stands (pubs h) p)) (sym (stands_as_said h legal)) in_said in
      (standing_there.0, for_whom_it_stands (pubs h) p, standing_there.1, refl, to_left h p s r fair left.0 (not_false (is_taken_back (pubs h) p r) (λ taken. left.2 (killed_before h p r taken))))

pub stands_for_those_left : StandsForThoseLeft
stands_for_those_left h legal k p there s r = (stands_left h legal p (k, there) s r, left_stands h legal p (k, there) s r)
