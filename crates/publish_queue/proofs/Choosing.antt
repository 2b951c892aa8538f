-- Which feed is pushed next: the first in turn is the earliest.
use Rattle.std.proofs.Common.{◌≡◌, ℕ, zero, suc, ◌+◌, ◌<◌, ◌≤◌, Bool, true, false, cond, not, ◌&&◌, ◌||◌, ◌==◌, List, [], ◌∷◌, length, map, slice_get, min, Option, Some, None, refl, sym, ap, ◌∙◌, subst, arith, ◌⊎◌, inl, inr}
use mathlib.Core.Bool.{true≢false}
use Rattle.std.specs.Prelude.{nat_le, nat_lt, filter_map}
use Rattle.std.specs.Option.{option_map}
use Rattle.std.specs.List.{All, cons_option}
use Rattle.std.specs.List.Sorted.{IsStrictlySortedBy}
use Rattle.std.specs.Cmp.Lexicographic.{slice_cmp, nat_list_eq_equiv, nat_list_cmp_total, texts_ties}
use Rattle.std.specs.declared.cmp.Ordering.{Ordering}
use Rattle.std.specs.declared.cmp.Ordering.TheVariants.{Less, Equal, Greater}
use Rattle.std.specs.Ordering.{nat_cmp, is_le, is_eq, ordering_then, ordering_reverse}
use Rattle.std.proofs.lemmas.Bool.{cases_lt}
use Rattle.std.proofs.lemmas.Bool.Decides.{nat_tests, Decides-eqb}
use Rattle.std.proofs.lemmas.List.{length-map}
use Rattle.std.proofs.lemmas.List.Elements.{All-head, All-tail}
use Rattle.news_types.specs.Names.{Bytes, same, is_in}
use Rattle.news_types.specs.Feeds.{Dispatch, feed_of, waiting_of}
use Rattle.news_types.specs.Delivery.{Candidate, candidate, ready_from, comes_first, earlier, earliest, is_by, pauses, first_release, or_else}
use Rattle.news_types.proofs.Members.{same_is, same_self, some_is, none_some}
use Rattle.publish_queue.specs.declared.feed.Feed.{Feed}
use Rattle.publish_queue.specs.declared.queue.Queue.{Queue}
use Rattle.publish_queue.specs.declared.turns.Turn.{Turn}
use Rattle.publish_queue.proofs.Ascending.{AllBehind}
use Rattle.publish_queue.specs.Ready.{later_by, next_by}
use Rattle.publish_queue.specs.Rows.{live, next_in}
use Rattle.publish_queue.specs.Coming.{sooner}
use Rattle.publish_queue.specs.Turns.{by_turn, same_turn, has, is_at}
use Rattle.publish_queue.specs.Many.{turn_in, name_of}
use Rattle.publish_queue.specs.Keeps.{Facts, Keeps, IsFeed, IsUntouched, turn_of, release_of, number_of}
use Rattle.news_types.specs.declared.query.Ready.{Ready}
use Rattle.news_types.specs.declared.query.Ready.TheVariants.{Now, Later}
use Rattle.publish_queue.specs.Choice.{ready_candidate_of, later_candidate_of, now_of, ready_of, chosen_of, choice_of, later_moment_of, moment_of_candidate, first_among, candidate_at, soonest}
use Rattle.publish_queue.proofs.TurnOrder.{turns_order}

-- ---- the least moment of some

moments_min : (a b : Candidate) → (cond (comes_first a b) a b).at ≡ min a.at b.at
moments_min a b = by (nat_lt a.at b.at) refl (a.at == b.at) refl (is_le (slice_cmp nat_cmp a.name b.name))
  where
    by : (lt : Bool) → nat_lt a.at b.at ≡ lt → (eq : Bool) → (a.at == b.at) ≡ eq → (le : Bool) → (cond (lt || (eq && le)) a b).at ≡ min a.at b.at
    by true e eq f le = let less : a.at < b.at = grind (arith, nat_tests) in omega arith
    by false e true f true = let is : a.at ≡ b.at = (Decides-eqb a.at b.at).0 f in omega arith
    by false e true f false = let is : a.at ≡ b.at = (Decides-eqb a.at b.at).0 f in omega arith
    by false e false f le = let from : b.at ≤ a.at = grind (arith, nat_tests) in omega arith

pub soonest_is : (g : Bytes → Option Candidate) (asked : List Bytes) → option_map moment_of_candidate (earliest (filter_map g asked)) ≡ soonest (λ s. option_map moment_of_candidate (g s)) asked
soonest_is g [] = refl
soonest_is g (s ∷ ss) = by (g s) (earliest (filter_map g ss)) refl (soonest_is g ss)
  where
    by : (o e : Option Candidate) → earliest (filter_map g ss) ≡ e → option_map moment_of_candidate (earliest (filter_map g ss)) ≡ soonest (λ t. option_map moment_of_candidate (g t)) ss
        → option_map moment_of_candidate (earliest (cons_option o (filter_map g ss))) ≡ sooner (option_map moment_of_candidate o) (soonest (λ t. option_map moment_of_candidate (g t)) ss)
    by None e is rest = rest
    by (Some a) None is rest = rw (← rest, is) refl
    by (Some a) (Some b) is rest = rw (← rest, is) (ap Some (moments_min a b))

pub sooner_assoc : (a b c : Option ℕ) → sooner (sooner a b) c ≡ sooner a (sooner b c)
sooner_assoc None b c = refl
sooner_assoc (Some a) None c = refl
sooner_assoc (Some a) (Some b) None = refl
sooner_assoc (Some a) (Some b) (Some c) = ap Some (omega arith)

pub sooner_none : (a : Option ℕ) → sooner a None ≡ a
sooner_none None = refl
sooner_none (Some a) = refl

-- ---- a feed that may be ready later

pauses_is : (feed : List Dispatch) (a n : ℕ) → pauses (slice_get feed a) n ≡ (nat_lt a (length feed) && n == 10)
pauses_is [] a n = let b : nat_lt a 0 ≡ false = grind (arith, nat_tests) in rw b refl
pauses_is (p ∷ ps) zero n = let b : nat_lt 0 (suc (length ps)) ≡ true = grind (arith, nat_tests) in rw b refl
pauses_is (p ∷ ps) (suc a) n = let b : nat_lt (suc a) (suc (length ps)) ≡ nat_lt a (length ps) = grind (arith, nat_tests) in rw b (pauses_is ps a n)

first_is : (waits : List Dispatch) → next_in (map release_of waits) ≡ first_release waits
first_is [] = refl
first_is (d ∷ ds) = refl

mapped_back : (s : Bytes) (o : Option ℕ) → option_map moment_of_candidate (option_map (candidate s) o) ≡ o
mapped_back s None = refl
mapped_back s (Some n) = refl

pub later_is : (known : Facts) (s : Bytes) (f : Feed) → is_in s known.names ≡ true → name_of f ≡ s → IsFeed known f → later_by f ≡ later_moment_of known s
later_is known s f there name is =
    let ps = known.publications in
    let m = known.moment in
    let long : length f.row.numbers.items ≡ length (feed_of ps m s) = ap length is.rows.row.numbers ∙ length-map (feed_of ps m f.name) number_of ∙ ap (λ t. length (feed_of ps m t)) name in
    let acked_is : f.delivery.acked ≡ known.acked s = is.stands.receipt ∙ ap known.acked name in
    let tries_are : f.delivery.tries ≡ known.tries s = is.stands.attempts ∙ ap known.tries name in
    let turn : f.turn ≡ turn_of known s = is.turn ∙ ap (turn_of known) name in
    let waits : next_in (live f.waiting.releases.items) ≡ first_release (waiting_of ps m s) =
    ap next_in is.rows.waiting ∙ first_is (waiting_of ps m f.name) ∙ ap (λ t. first_release (waiting_of ps m t)) name in
    rw (there, pauses_is (feed_of ps m s) (known.acked s) (known.tries s), long, acked_is, tries_are, turn, waits) (by (nat_lt (known.acked s) (length (feed_of ps m s)) && known.tries s == 10))
  where
    next : Option ℕ
    next = or_else (turn_of known s) (first_release (waiting_of known.publications known.moment s))

    by : (b : Bool) → cond b None next ≡ option_map moment_of_candidate (cond (not b) (option_map (candidate s) next) None)
    by true = refl
    by false = sym (mapped_back s next)

-- ---- the turns are those of the publications

pub turn_none : (known : Facts) (s : Bytes) → IsUntouched known s → turn_of known s ≡ None
turn_none known s is = rw is.due refl

turns_in : (known : Facts) (fs : List Feed) (s : Bytes) → All (IsFeed known) fs → (is_in s (map name_of fs) ≡ false → turn_of known s ≡ None) → turn_in fs s ≡ turn_of known s
turns_in known [] s all none = sym (none refl)
turns_in known (f ∷ fs) s all none = by (same f.name s) refl (turns_in known fs s (All-tail (IsFeed known) f fs all))
  where
    by : (b : Bool) → same f.name s ≡ b → ((is_in s (map name_of fs) ≡ false → turn_of known s ≡ None) → turn_in fs s ≡ turn_of known s) → cond b f.turn (turn_in fs s) ≡ turn_of known s
    by true e rest = (All-head (IsFeed known) f fs all).turn ∙ ap (turn_of known) (same_is f.name s e)
    by false e rest = rest (λ absent. none (rw (nat_list_eq_equiv.symm s f.name ∙ e) absent))

pub turns_are : (q : Queue) (known : Facts) → Keeps q known → (s : Bytes) → turn_in q.feeds.feeds.items s ≡ turn_of known s
turns_are q known keeps s =
    turns_in known q.feeds.feeds.items s keeps.feeds (λ absent. turn_none known s (keeps.others s (sym (keeps.subscribed s) ∙ ap (is_in s) (sym q.feeds.named) ∙ absent)))

-- ---- the first in turn

member_behind : (t c : Turn) (ts : List Turn) → AllBehind by_turn t ts → has c ts ≡ true → by_turn t c ≡ Less
member_behind t c [] all there = absurd (true≢false (sym there))
member_behind t c (u ∷ us) all there = by (same_turn c u) refl there (member_behind t c us all.1)
  where
    by : (b : Bool) → same_turn c u ≡ b → (b || has c us) ≡ true → (has c us ≡ true → by_turn t c ≡ Less) → by_turn t c ≡ Less
    by true e yes-there rest = ap (by_turn t) (turns_order.is c u e) ∙ all.0
    by false e yes-there rest = rest yes-there

less_moment : (t c : Turn) → by_turn t c ≡ Less → t.moment ≤ c.moment
less_moment t c less = by (nat_lt t.moment c.moment) refl (t.moment == c.moment) refl less
  where
    by : (lt : Bool) → nat_lt t.moment c.moment ≡ lt → (eq : Bool) → (t.moment == c.moment) ≡ eq → ordering_then (cond lt Less (cond eq Equal Greater)) (slice_cmp nat_cmp t.name c.name) ≡ Less → t.moment ≤ c.moment
    by true e eq f is = grind (arith, nat_tests)
    by false e true f is = grind (arith, nat_tests)
    by false e false f is = cc

-- none of these is due
pub first_none : (asked : List Bytes) (m : ℕ) (ts : List Turn) → IsStrictlySortedBy by_turn ts → first_among asked m ts ≡ None → (c : Turn) → has c ts ≡ true → nat_le c.moment m ≡ true → is_in c.name asked ≡ false
unfolding IsStrictlySortedBy
first_none asked m [] up none c there due = absurd (true≢false (sym there))
first_none asked m (t ∷ ts) up none c there due = by (nat_le t.moment m) refl (is_in t.name asked) refl none (same_turn c t) refl there (first_none asked m ts up.1)
  where
    by : (a : Bool) → nat_le t.moment m ≡ a → (b : Bool) → is_in t.name asked ≡ b → cond a (cond b (Some t) (first_among asked m ts)) None ≡ None → (e : Bool) → same_turn c t ≡ e → (e || has c ts) ≡ true
        → (first_among asked m ts ≡ None → (d : Turn) → has d ts ≡ true → nat_le d.moment m ≡ true → is_in d.name asked ≡ false) → is_in c.name asked ≡ false
    by true x true y is e z h rest = cc
    by true x false y is true z h rest = ap (λ (u : Turn). is_in u.name asked) (turns_order.is c t z) ∙ y
    by true x false y is false z h rest = rest is c h due
    by false x b y is true z h rest = absurd (true≢false (sym due ∙ ap (λ (u : Turn). nat_le u.moment m) (turns_order.is c t z) ∙ x))
    by false x b y is false z h rest =
        let le : t.moment ≤ c.moment = less_moment t c (member_behind t c ts up.0 h) in
        let late : nat_le c.moment m ≡ false = grind (arith, nat_tests) in
        absurd (true≢false (sym due ∙ late))

-- it is due, and before the others of these
pub record IsFirst (asked : List Bytes) (m : ℕ) (ts : List Turn) (t : Turn) : Type 0 where
  pub there : has t ts ≡ true
  pub due : nat_le t.moment m ≡ true
  pub among : is_in t.name asked ≡ true
  pub before : (c : Turn) → has c ts ≡ true → nat_le c.moment m ≡ true → is_in c.name asked ≡ true → (by_turn t c ≡ Less) ⊎ (t ≡ c)

or_true : (b : Bool) → (b || true) ≡ true
or_true true = refl
or_true false = refl

behind : (u : Turn) (us : List Turn) (t c : Turn) → AllBehind by_turn u us → (b : Bool) → same_turn c u ≡ b → (b || has c us) ≡ true → u ≡ t → (by_turn t c ≡ Less) ⊎ (t ≡ c)
behind u us t c up true e there same_one = inr (sym same_one ∙ sym (turns_order.is c u e))
behind u us t c up false e there same_one = inl (ap (λ v. by_turn v c) (sym same_one) ∙ member_behind u c us up there)

later : (asked : List Bytes) (m : ℕ) (u : Turn) (us : List Turn) (t c : Turn) → IsFirst asked m us t → (b : Bool) → same_turn c u ≡ b → (b || has c us) ≡ true → nat_le c.moment m ≡ true → is_in c.name asked ≡ true → is_in u.name asked ≡ false → (by_turn t c ≡ Less) ⊎ (t ≡ c)
later asked m u us t c first true e there due among not-among = absurd (true≢false (sym among ∙ ap (λ (v : Turn). is_in v.name asked) (turns_order.is c u e) ∙ not-among))
later asked m u us t c first false e there due among not-among = first.before c there due among

pub first_some : (asked : List Bytes) (m : ℕ) (ts : List Turn) (t : Turn) → IsStrictlySortedBy by_turn ts → first_among asked m ts ≡ Some t → IsFirst asked m ts t
unfolding IsStrictlySortedBy
first_some asked m [] t up is = cc
first_some asked m (u ∷ us) t up is = by (nat_le u.moment m) refl (is_in u.name asked) refl is (first_some asked m us t up.1)
  where
    by : (a : Bool) → nat_le u.moment m ≡ a → (b : Bool) → is_in u.name asked ≡ b → cond a (cond b (Some u) (first_among asked m us)) None ≡ Some t
        → (first_among asked m us ≡ Some t → IsFirst asked m us t) → IsFirst asked m (u ∷ us) t
    by true x true y found rest =
        let same_one : u ≡ t = cc in
        record {
          there = rw (← same_one, turns_order.self u) refl;
          due = ap (λ (v : Turn). nat_le v.moment m) (sym same_one) ∙ x;
          among = ap (λ (v : Turn). is_in v.name asked) (sym same_one) ∙ y;
          before = λ c there due among. behind u us t c up.0 (same_turn c u) refl there same_one;
        }
    by true x false y found rest =
        let first : IsFirst asked m us t = rest found in
        record {
          there = rw first.there (or_true (same_turn t u));
          due = first.due;
          among = first.among;
          before = λ c there due among. later asked m u us t c first (same_turn c u) refl there due among y;
        }
    by false x b y found rest = cc

    or_true : (b : Bool) → (b || true) ≡ true
    or_true true = refl
    or_true false = refl

-- ---- the earliest candidate

not_after : (t c : Turn) → (by_turn t c ≡ Less) ⊎ (t ≡ c) → comes_first (candidate_at t) (candidate_at c) ≡ true
not_after t c (inl less) = by (nat_lt t.moment c.moment) (t.moment == c.moment) (slice_cmp nat_cmp t.name c.name) less
  where
    by : (lt eq : Bool) (o : Ordering) → ordering_then (cond lt Less (cond eq Equal Greater)) o ≡ Less → (lt || (eq && is_le o)) ≡ true
    by true eq o is = refl
    by false true Less is = refl
    by false true Equal is = cc
    by false true Greater is = cc
    by false false o is = cc
not_after t c (inr is) =
    rw (← is, (Decides-eqb t.moment t.moment).1 refl) (by (nat_lt t.moment t.moment) (slice_cmp nat_cmp t.name t.name) (texts_ties t.name t.name))
  where
    by : (lt : Bool) (o : Ordering) → same t.name t.name ≡ is_eq o → (lt || (true && is_le o)) ≡ true
    by true o is = refl
    by false Less is = refl
    by false Equal is = refl
    by false Greater is = absurd (true≢false (sym (same_self t.name) ∙ is))

tied : (o : Ordering) → is_le o ≡ true → is_le (ordering_reverse o) ≡ true → is_eq o ≡ true
tied Less x y = absurd (true≢false (sym y))
tied Equal x y = refl
tied Greater x y = absurd (true≢false (sym x))

both_first : (a b : Candidate) → comes_first a b ≡ true → comes_first b a ≡ true → a ≡ b
both_first a b x y = elim (cases_lt a.at b.at) [
  | inl less ↦
      let lt : nat_lt b.at a.at ≡ false = grind (arith, nat_tests) in
      let eq : (b.at == a.at) ≡ false = grind (arith, nat_tests) in
      absurd (true≢false (sym y ∙ rw (lt, eq) refl))
  | inr from ↦ elim (cases_lt b.at a.at) [
    | inl less ↦
        let lt : nat_lt a.at b.at ≡ false = grind (arith, nat_tests) in
        let eq : (a.at == b.at) ≡ false = grind (arith, nat_tests) in
        absurd (true≢false (sym x ∙ rw (lt, eq) refl))
    | inr to ↦
        let at : a.at ≡ b.at = omega arith in
        let lt : nat_lt a.at b.at ≡ false = grind (arith, nat_tests) in
        let lt_back : nat_lt b.at a.at ≡ false = grind (arith, nat_tests) in
        let eq : (a.at == b.at) ≡ true = grind (arith, nat_tests) in
        let eq_back : (b.at == a.at) ≡ true = grind (arith, nat_tests) in
        let le : is_le (slice_cmp nat_cmp a.name b.name) ≡ true = rw (lt, eq) at x in
        let le_back : is_le (slice_cmp nat_cmp b.name a.name) ≡ true = rw (lt_back, eq_back) at y in
        let name : a.name ≡ b.name = same_is a.name b.name (texts_ties a.name b.name ∙ tied (slice_cmp nat_cmp a.name b.name) le (ap is_le (sym (nat_list_cmp_total.antisymm b.name a.name)) ∙ le_back)) in
        λ i. record { at = at i; name = name i }
  ]
]

-- what holds of each candidate holds of the earliest
earliest_has : (g : Bytes → Option Candidate) (P : Candidate → Type 0) (asked : List Bytes) → ((s : Bytes) → is_in s asked ≡ true → (y : Candidate) → g s ≡ Some y → P y) → (b : Candidate) → earliest (filter_map g asked) ≡ Some b → P b
earliest_has g P [] all b is = cc
earliest_has g P (s ∷ ss) all b is =
    by (g s) refl (earliest (filter_map g ss)) refl is (earliest_has g P ss (λ t among y e. all t (rw among (or_true (same t s))) y e))
  where
    by : (o : Option Candidate) → g s ≡ o → (e : Option Candidate) → earliest (filter_map g ss) ≡ e → earliest (cons_option o (filter_map g ss)) ≡ Some b → ((c : Candidate) → earliest (filter_map g ss) ≡ Some c → P c) → P b
    by None h e k found rest = rest b found
    by (Some a) h None k found rest =
        let here : P a = all s (rw (same_self s) refl) a h in
        let is_a : a ≡ b = some_is a b (sym (rw k refl) ∙ found) in
        subst P is_a here
    by (Some a) h (Some c) k found rest =
        let here : P a = all s (rw (same_self s) refl) a h in
        let chosen : cond (comes_first a c) a c ≡ b = some_is _ b (sym (rw k refl) ∙ found) in
        subst P chosen (pick (comes_first a c) here (rest c k))
      where
        pick : (d : Bool) → P a → P c → P (cond d a c)
        pick true here there = here
        pick false here there = there

-- a candidate that comes before each is the earliest
pub earliest_is : (g : Bytes → Option Candidate) (x : Candidate) (asked : List Bytes) → is_in x.name asked ≡ true → g x.name ≡ Some x → ((s : Bytes) → is_in s asked ≡ true → (y : Candidate) → g s ≡ Some y → comes_first x y ≡ true)
    → earliest (filter_map g asked) ≡ Some x
earliest_is g x [] among is first = absurd (true≢false (sym among))
earliest_is g x (s ∷ ss) among is first =
    let others : (t : Bytes) → is_in t ss ≡ true → (y : Candidate) → g t ≡ Some y → comes_first x y ≡ true = λ t there y e. first t (rw there (or_true (same t s))) y e in
    by (same x.name s) refl among (g s) refl (λ there. earliest_is g x ss there is others) (λ b e. earliest_has g (λ y. comes_first x y ≡ true) ss others b e)
  where
    here : (e : Option Candidate) → ((b : Candidate) → e ≡ Some b → comes_first x b ≡ true) → Some (earlier x e) ≡ Some x
    here None first_of = refl
    here (Some b) first_of = rw (first_of b refl) refl

    there : (a : Candidate) → comes_first x a ≡ true → (d : Bool) → comes_first a x ≡ d → Some (cond d a x) ≡ Some x
    there a first_of true e = ap Some (both_first a x e first_of)
    there a first_of false e = refl

    by : (b : Bool) → same x.name s ≡ b → (b || is_in x.name ss) ≡ true → (o : Option Candidate) → g s ≡ o → (is_in x.name ss ≡ true → earliest (filter_map g ss) ≡ Some x)
        → ((c : Candidate) → earliest (filter_map g ss) ≡ Some c → comes_first x c ≡ true) → earliest (cons_option o (filter_map g ss)) ≡ Some x
    by true e there-some o h rest has_first =
        let itself : o ≡ Some x = sym h ∙ ap g (sym (same_is x.name s e)) ∙ is in
        rw itself (here (earliest (filter_map g ss)) has_first)
    by false e there-some None h rest has_first = rest there-some
    by false e there-some (Some a) h rest has_first = rw (rest there-some) (there a (first s (rw (same_self s) refl) a h) (comes_first a x) refl)

-- no candidate, no earliest one
pub earliest_none : (g : Bytes → Option Candidate) (asked : List Bytes) → ((s : Bytes) → is_in s asked ≡ true → g s ≡ None) → earliest (filter_map g asked) ≡ None
earliest_none g [] none = refl
earliest_none g (s ∷ ss) none = rw (none s (rw (same_self s) refl)) (earliest_none g ss (λ t there. none t (rw there (or_true (same t s)))))

-- ---- the choice

at_is : (m : ℕ) (o : Option ℕ) → is_at m o ≡ true → o ≡ Some m
at_is m None e = absurd (true≢false (sym e))
at_is m (Some n) e = ap Some (sym ((Decides-eqb m n).0 e))

module _ (known : Facts) (ts : List Turn) (up : IsStrictlySortedBy by_turn ts)
    (turns : (c : Turn) → has c ts ≡ is_at c.moment (turn_of known c.name)) (others : (s : Bytes) → is_in s known.names ≡ false → turn_of known s ≡ None) (asked : List Bytes) (at : ℕ) where
  -- what a candidate says
  ready : (s : Bytes) (y : Candidate) → ready_candidate_of known at s ≡ Some y → (n : ℕ) × ((turn_of known s ≡ Some n) × (nat_le n at ≡ true) × (y ≡ candidate s n))
  ready s y is = by (is_in s known.names) (turn_of known s) refl is
    where
      by : (b : Bool) (o : Option ℕ) → turn_of known s ≡ o → cond (b && is_by at o) (option_map (candidate s) o) None ≡ Some y → (n : ℕ) × ((turn_of known s ≡ Some n) × (nat_le n at ≡ true) × (y ≡ candidate s n))
      by false o e found = cc
      by true None e found = cc
      by true (Some n) e found = due (nat_le n at) refl found
        where
          due : (d : Bool) → nat_le n at ≡ d → cond d (Some (candidate s n)) None ≡ Some y → (k : ℕ) × ((turn_of known s ≡ Some k) × (nat_le k at ≡ true) × (y ≡ candidate s k))
          due true f found = (n, (e, f, sym (some_is (candidate s n) y found)))
          due false f found = cc

  member : (s : Bytes) (n : ℕ) → turn_of known s ≡ Some n → has (record { moment = n; name = s }) ts ≡ true
  member s n is = turns (record { moment = n; name = s }) ∙ ap (is_at n) is ∙ (Decides-eqb n n).1 refl

  pub chosen_none : first_among asked at ts ≡ None → earliest (filter_map (ready_candidate_of known at) asked) ≡ None
  chosen_none none = earliest_none (ready_candidate_of known at) asked (λ s among. by s among (ready_candidate_of known at s) refl)
    where
      by : (s : Bytes) → is_in s asked ≡ true → (o : Option Candidate) → ready_candidate_of known at s ≡ o → o ≡ None
      by s among None e = refl
      by s among (Some y) e =
          let r = ready s y e in
          let absent : is_in s asked ≡ false = first_none asked at ts up none (record { moment = r.0; name = s }) (member s r.0 r.1.0) r.1.1 in
          absurd (true≢false (sym among ∙ absent))

  pub chosen_some : (t : Turn) → first_among asked at ts ≡ Some t
      → (earliest (filter_map (ready_candidate_of known at) asked) ≡ Some (candidate_at t)) × (turn_of known t.name ≡ Some t.moment) × (is_in t.name known.names ≡ true)
  chosen_some t is =
      let first : IsFirst asked at ts t = first_some asked at ts t up is in
      let turn : turn_of known t.name ≡ Some t.moment = at_is t.moment (turn_of known t.name) (sym (turns t) ∙ first.there) in
      let there : is_in t.name known.names ≡ true = is_listed (is_in t.name known.names) refl turn in
      let itself : ready_candidate_of known at t.name ≡ Some (candidate_at t) = rw (there, turn, first.due) refl in (
        earliest_is (ready_candidate_of known at) (candidate_at t) asked first.among itself (λ s among y e.
            let r = ready s y e in
            let c : Turn = record { moment = r.0; name = s } in
            rw r.1.2 (not_after t c (first.before c (member s r.0 r.1.0) r.1.1 among))),
        turn,
        there,
      )
    where
      is_listed : (b : Bool) → is_in t.name known.names ≡ b → turn_of known t.name ≡ Some t.moment → b ≡ true
      is_listed true e turn = refl
      is_listed false e turn = let none = others t.name e in cc

-- ---- the first feed in turn

module _ (q : Queue) (known : Facts) (keeps : Keeps q known) (asked : List Bytes) (at : ℕ) where
  members : (c : Turn) → has c q.feeds.turns.turns.items ≡ is_at c.moment (turn_of known c.name)
  members c = keeps.ordered.holds.member c ∙ ap (is_at c.moment) (turns_are q known keeps c.name)

  strangers : (s : Bytes) → is_in s known.names ≡ false → turn_of known s ≡ None
  strangers s none = turn_none known s (keeps.others s none)

  -- it is a subscriber's, and goes on with the entry behind those that were acknowledged
  pub ready_some : (t : Turn) → first_among asked at q.feeds.turns.turns.items ≡ Some t
      → (ready_of known asked at ≡ Some (Now t.name (known.acked t.name + 1))) × (turn_of known t.name ≡ Some t.moment) × (is_in t.name known.names ≡ true)
  ready_some t is =
      let chosen = chosen_some known q.feeds.turns.turns.items keeps.ordered.holds.ascends members strangers asked at t is in
      (ap (option_map (now_of known)) chosen.0, chosen.1, chosen.2)

  pub ready_none : first_among asked at q.feeds.turns.turns.items ≡ None → ready_of known asked at ≡ None
  ready_none none = ap (option_map (now_of known)) (chosen_none known q.feeds.turns.turns.items keeps.ordered.holds.ascends members strangers asked at none)

  -- its feed is there
  pub ready_there : (t : Turn) → first_among asked at q.feeds.turns.turns.items ≡ Some t → is_in t.name q.feeds.names.items ≡ true
  ready_there t is = keeps.subscribed t.name ∙ (ready_some t is).2

module _ (known : Facts) (asked : List Bytes) (at : ℕ) where
  pub choice_some : (r : Ready) → Some r ≡ ready_of known asked at → r ≡ choice_of known asked at
  choice_some r is = by (earliest (filter_map (ready_candidate_of known at) asked)) is
    where
      by : (o : Option Candidate) → Some r ≡ option_map (now_of known) o → r ≡ chosen_of known o asked
      by None e = absurd (none_some r (sym e))
      by (Some found) e = some_is r (now_of known found) e

  pub choice_none : (next : Option ℕ) → None ≡ ready_of known asked at → next ≡ soonest (later_moment_of known) asked → Later next ≡ choice_of known asked at
  choice_none next none is = by (earliest (filter_map (ready_candidate_of known at) asked)) none
    where
      by : (o : Option Candidate) → None ≡ option_map (now_of known) o → Later next ≡ chosen_of known o asked
      by None e = ap Later (is ∙ sym (soonest_is (later_candidate_of known) asked))
      by (Some found) e = absurd (none_some (now_of known found) e)

-- a feed that may be pushed goes on with an entry
has_entry : (feed : List Dispatch) (a n last k : ℕ) → ready_from (slice_get feed a) n last ≡ Some k → a < length feed
has_entry [] a n last k is = cc
has_entry (p ∷ ps) zero n last k is = omega arith
has_entry (p ∷ ps) (suc a) n last k is = let rest = has_entry ps a n last k is in omega (arith, rest)

pub goes_on : (known : Facts) (s : Bytes) (f : Feed) (n : ℕ) → f.name ≡ s → IsFeed known f → turn_of known s ≡ Some n → next_by f ≡ Some (known.acked s + 1)
goes_on known s f n name is turn =
    let feed = feed_of known.publications known.moment s in
    let long : length f.row.numbers.items ≡ length feed =
    ap length is.rows.row.numbers ∙ length-map (feed_of known.publications known.moment f.name) number_of ∙ ap (λ t. length (feed_of known.publications known.moment t)) name in
    let acked_is : f.delivery.acked ≡ known.acked s = is.stands.receipt ∙ ap known.acked name in
    let within : known.acked s < length feed = has_entry feed (known.acked s) (known.tries s) (known.tried s) n turn in
    let yes : nat_lt (known.acked s) (length feed) ≡ true = grind (arith, nat_tests, within) in
    rw (long, acked_is, yes) refl
