-- The turns of the feeds.
use Rattle.std.proofs.Common.{◌≡◌, ℕ, zero, suc, ◌+◌, ◌<◌, ◌≤◌, Bool, true, false, cond, List, [], ◌∷◌, length, map, get_or, set, Option, Some, None, vec_len, vec_capacity, refl, sym, ap, subst, ◌∙◌, arith}
use mathlib.Core.Bool.{true≢false}
use Rattle.std.specs.Prelude.{nat_le}
use Rattle.std.proofs.lemmas.Bool.Decides.{nat_tests}
use Rattle.std.specs.Cmp.Lexicographic.{slice_cmp, nat_list_eq_equiv}
use Rattle.std.specs.Ordering.{nat_cmp}
use Rattle.std.specs.List.Sorted.{IsStrictlySortedBy}
use Rattle.std.proofs.lemmas.List.{length-set}
use Rattle.news_types.specs.Names.{Bytes, same, AreInOrder}
use Rattle.news_types.proofs.Members.{same_is, same_self}
use Rattle.publish_queue.specs.declared.release.Release.{Release}
use Rattle.publish_queue.specs.declared.feed.Delivery.{Delivery}
use Rattle.publish_queue.specs.declared.feed.Feed.{Feed}
use Rattle.publish_queue.specs.declared.queue.Feeds.{Feeds}
use Rattle.publish_queue.specs.declared.turns.Turns.{Turns}
use Rattle.publish_queue.specs.Turns.{HoldsTurns, by_turn, is_at, one}
use Rattle.publish_queue.specs.Ready.{row_turn}
use Rattle.publish_queue.specs.Rows.{live, FirstIsLater, moved, left, number_in, moment_in}
use Rattle.publish_queue.specs.Steps.{IsAlike, IsAdded, IsAdvanced, IsDelivered}
use Rattle.publish_queue.specs.Many.{turn_in, turn_count, name_of, IsOrdered, IsSettled}
use Rattle.publish_queue.proofs.Ascending.{AllBehind, less_not}
use Rattle.publish_queue.proofs.ByName.{names_order}

-- ---- a feed is changed

-- its turn is as it was
pub turn_kept : (fs : List Feed) (i : ℕ) (f g : Feed) (s : Bytes) → f ≡ get_or fs i f → g.name ≡ f.name → g.turn ≡ f.turn → turn_in (set fs i g) s ≡ turn_in fs s
turn_kept [] i f g s is name turn = refl
turn_kept (h ∷ hs) zero f g s is name turn =
    let name_is : g.name ≡ h.name = name ∙ ap (λ (x : Feed). x.name) is in
    let turn_is : g.turn ≡ h.turn = turn ∙ ap (λ (x : Feed). x.turn) is in
    rw (name_is, turn_is) refl
turn_kept (h ∷ hs) (suc i) f g s is name turn = ap (λ o. cond (same h.name s) h.turn o) (turn_kept hs i f g s is name turn)

pub count_kept : (fs : List Feed) (i : ℕ) (f g : Feed) → f ≡ get_or fs i f → g.turn ≡ f.turn → turn_count (set fs i g) ≡ turn_count fs
count_kept [] i f g is turn = refl
count_kept (h ∷ hs) zero f g is turn =
    let turn_is : g.turn ≡ h.turn = turn ∙ ap (λ (x : Feed). x.turn) is in
    rw turn_is refl
count_kept (h ∷ hs) (suc i) f g is turn = ap (λ n. one h.turn + n) (count_kept hs i f g is turn)

pub names_kept : (fs : List Feed) (i : ℕ) (f g : Feed) → f ≡ get_or fs i f → g.name ≡ f.name → map name_of (set fs i g) ≡ map name_of fs
names_kept [] i f g is name = refl
names_kept (h ∷ hs) zero f g is name =
    let name_is : g.name ≡ h.name = name ∙ ap (λ (x : Feed). x.name) is in
    rw name_is refl
names_kept (h ∷ hs) (suc i) f g is name = ap (λ ns. h.name ∷ ns) (names_kept hs i f g is name)

-- a feed behind another one has another name
other_name : (h : Feed) (hs : List Feed) (i : ℕ) (f : Feed) → AllBehind (slice_cmp nat_cmp) h.name (map name_of hs) → i < length hs → f ≡ get_or hs i f → same f.name h.name ≡ false
other_name h [] i f all lt is = absurd (omega (arith, lt))
other_name h (k ∷ ks) zero f all lt is = ap (λ (x : Feed). same x.name h.name) is ∙ less_not names_order k.name h.name all.0
other_name h (k ∷ ks) (suc i) f all lt is = other_name h ks i f all.1 (omega (arith, lt)) is

cond_same : {A : Type 0} (b : Bool) (x y : A) → cond b x (cond b y y) ≡ cond b x y
cond_same true x y = refl
cond_same false x y = refl

-- the names of the feeds are in order
pub in_order : (fs : Feeds) → AreInOrder (map name_of fs.feeds.items)
in_order fs = rw fs.named fs.ascends

-- its turn is another one
pub turn_set : (fs : List Feed) (i : ℕ) (f g : Feed) (s : Bytes) → AreInOrder (map name_of fs) → i < length fs → f ≡ get_or fs i f → g.name ≡ f.name → turn_in (set fs i g) s ≡ cond (same f.name s) g.turn (turn_in fs s)
unfolding IsStrictlySortedBy
turn_set [] i f g s up lt is name = absurd (omega (arith, lt))
turn_set (h ∷ hs) zero f g s up lt is name =
    let here : f.name ≡ h.name = ap (λ (x : Feed). x.name) is in
    rw (name, here) (by (same h.name s))
  where
    by : (b : Bool) → cond b g.turn (turn_in hs s) ≡ cond b g.turn (cond b h.turn (turn_in hs s))
    by true = refl
    by false = refl
turn_set (h ∷ hs) (suc i) f g s up lt is name =
    rw (turn_set hs i f g s up.1 (omega (arith, lt)) is name) (by (same h.name s) (same f.name s) refl refl)
  where
    by : (a b : Bool) → same h.name s ≡ a → same f.name s ≡ b → cond a h.turn (cond b g.turn (turn_in hs s)) ≡ cond b g.turn (cond a h.turn (turn_in hs s))
    by true true e k = absurd (true≢false (sym (ap (same f.name) (same_is h.name s e) ∙ k) ∙ other_name h hs i f up.0 (omega (arith, lt)) is))
    by true false e k = refl
    by false b e k = refl

-- it was this one
pub turn_was : (fs : List Feed) (i : ℕ) (f : Feed) → AreInOrder (map name_of fs) → i < length fs → f ≡ get_or fs i f → turn_in fs f.name ≡ f.turn
unfolding IsStrictlySortedBy
turn_was [] i f up lt is = absurd (omega (arith, lt))
turn_was (h ∷ hs) zero f up lt is =
    let here : f.name ≡ h.name = ap (λ (x : Feed). x.name) is in
    let turn : f.turn ≡ h.turn = ap (λ (x : Feed). x.turn) is in
    rw (here, turn, same_self h.name) refl
turn_was (h ∷ hs) (suc i) f up lt is =
    let other : same h.name f.name ≡ false = nat_list_eq_equiv.symm h.name f.name ∙ other_name h hs i f up.0 (omega (arith, lt)) is in
    rw other (turn_was hs i f up.1 (omega (arith, lt)) is)

pub count_set : (fs : List Feed) (i : ℕ) (f g : Feed) → i < length fs → f ≡ get_or fs i f → turn_count (set fs i g) + one f.turn ≡ turn_count fs + one g.turn
count_set [] i f g lt is = absurd (omega (arith, lt))
count_set (h ∷ hs) zero f g lt is = let turn : f.turn ≡ h.turn = ap (λ (x : Feed). x.turn) is in rw turn (omega arith)
count_set (h ∷ hs) (suc i) f g lt is = let rest = count_set hs i f g (omega (arith, lt)) is in omega (arith, rest)

at_most_one : (o : Option ℕ) → one o ≤ 1
at_most_one None = omega arith
at_most_one (Some n) = omega arith

count_most : (fs : List Feed) → turn_count fs ≤ length fs
count_most [] = omega arith
count_most (f ∷ fs) = let a = at_most_one f.turn in let b = count_most fs in omega (arith, a, b)

-- there is room for it
pub count_room : (fs : List Feed) (i : ℕ) (f : Feed) → i < length fs → f ≡ get_or fs i f → turn_count fs < length fs + one f.turn
count_room [] i f lt is = absurd (omega (arith, lt))
count_room (h ∷ hs) zero f lt is = let turn : f.turn ≡ h.turn = ap (λ (x : Feed). x.turn) is in let most = count_most hs in rw turn (omega (arith, most))
count_room (h ∷ hs) (suc i) f lt is = let rest = count_room hs i f (omega (arith, lt)) is in let a = at_most_one h.turn in omega (arith, rest, a)

-- ---- the order

pub holds_same : (turns : Turns) (before after : Bytes → Option ℕ) → HoldsTurns turns before → ((s : Bytes) → after s ≡ before s) → HoldsTurns turns after
holds_same turns before after holds same_turns = record { ascends = holds.ascends; member = λ c. holds.member c ∙ ap (is_at c.moment) (sym (same_turns c.name)) }

no_turns : IsStrictlySortedBy by_turn []
unfolding IsStrictlySortedBy
no_turns = tt

pub nothing_in_turn : (fs : List Feed) (turns : Turns) → fs ≡ [] → turns.turns.items ≡ [] → IsOrdered fs turns
nothing_in_turn fs turns none empty = record {
  holds = record { ascends = rw empty no_turns; member = λ c. rw (none, empty) refl };
  count = turns.turns.ok.0 ∙ ap length empty ∙ sym (ap turn_count none);
  room = rw none (omega arith);
}

-- the turns stay
pub ordered_kept : (fs : List Feed) (turns : Turns) (i : ℕ) (f g : Feed) → f ≡ get_or fs i f → g.name ≡ f.name → g.turn ≡ f.turn → IsOrdered fs turns → IsOrdered (set fs i g) turns
ordered_kept fs turns i f g is name turn o = record {
  holds = holds_same turns (turn_in fs) (turn_in (set fs i g)) o.holds (λ s. turn_kept fs i f g s is name turn);
  count = o.count ∙ sym (count_kept fs i f g is turn);
  room = let long = length-set fs i g in omega (arith, long, o.room);
}

-- a feed's turn is another one
pub ordered_set : (fs : List Feed) (olds news : Turns) (i : ℕ) (f g : Feed) (after : Option ℕ) → AreInOrder (map name_of fs) → i < length fs → f ≡ get_or fs i f → g.name ≡ f.name → g.turn ≡ after
    → HoldsTurns news (λ s. cond (same f.name s) after (turn_in fs s)) → vec_len news.turns + one f.turn ≡ vec_len olds.turns + one after → vec_capacity olds.turns ≤ vec_capacity news.turns
    → IsOrdered fs olds → IsOrdered (set fs i g) news
ordered_set fs olds news i f g after up lt is name turn holds len capacity o = record {
  holds = holds_same news _ (turn_in (set fs i g)) holds (λ s. turn_set fs i f g s up lt is name ∙ ap (λ t. cond (same f.name s) t (turn_in fs s)) turn);
  count =
      let set_count : turn_count (set fs i g) + one f.turn ≡ turn_count fs + one after = count_set fs i f g lt is ∙ ap (λ t. turn_count fs + one t) turn in
      omega (arith, set_count, len, o.count);
  room = let long = length-set fs i g in omega (arith, long, o.room, capacity);
}

pub ordered_room : (fs : List Feed) (turns : Turns) (i : ℕ) (f : Feed) → i < length fs → f ≡ get_or fs i f → IsOrdered fs turns → vec_len turns.turns < vec_capacity turns.turns + one f.turn
ordered_room fs turns i f lt is o = let room = count_room fs i f lt is in omega (arith, room, o.count, o.room)

-- each feed has its name and its turn
pub ordered_each : (olds news : List Feed) (turns : Turns) → length news ≡ length olds → ((k : ℕ) (d : Feed) → k < length olds → (get_or news k d).name ≡ (get_or olds k d).name)
    → ((k : ℕ) (d : Feed) → k < length olds → (get_or news k d).turn ≡ (get_or olds k d).turn) → IsOrdered olds turns → IsOrdered news turns
ordered_each olds news turns long names same_turns o = record {
  holds = holds_same turns (turn_in olds) (turn_in news) o.holds (λ s. turns_each olds news s long names same_turns);
  count = o.count ∙ sym (counts_each olds news long same_turns);
  room = omega (arith, long, o.room);
}
  where
    turns_each : (olds news : List Feed) (s : Bytes) → length news ≡ length olds → ((k : ℕ) (d : Feed) → k < length olds → (get_or news k d).name ≡ (get_or olds k d).name)
        → ((k : ℕ) (d : Feed) → k < length olds → (get_or news k d).turn ≡ (get_or olds k d).turn) → turn_in news s ≡ turn_in olds s
    turns_each [] [] s long names same_turns = refl
    turns_each [] (g ∷ gs) s long names same_turns = absurd (omega (arith, long))
    turns_each (f ∷ fs) [] s long names same_turns = absurd (omega (arith, long))
    turns_each (f ∷ fs) (g ∷ gs) s long names same_turns =
        let name : g.name ≡ f.name = names 0 f (omega arith) in
        let turn : g.turn ≡ f.turn = same_turns 0 f (omega arith) in
        let rest = turns_each fs gs s (omega (arith, long)) (λ k d lt. names (suc k) d (omega (arith, lt))) (λ k d lt. same_turns (suc k) d (omega (arith, lt))) in
        rw (name, turn, rest) refl

    counts_each : (olds news : List Feed) → length news ≡ length olds → ((k : ℕ) (d : Feed) → k < length olds → (get_or news k d).turn ≡ (get_or olds k d).turn) → turn_count news ≡ turn_count olds
    counts_each [] [] long same_turns = refl
    counts_each [] (g ∷ gs) long same_turns = absurd (omega (arith, long))
    counts_each (f ∷ fs) [] long same_turns = absurd (omega (arith, long))
    counts_each (f ∷ fs) (g ∷ gs) long same_turns =
        let turn : g.turn ≡ f.turn = same_turns 0 f (omega arith) in
        let rest = counts_each fs gs (omega (arith, long)) (λ k d lt. same_turns (suc k) d (omega (arith, lt))) in
        rw (turn, rest) refl

-- and the turns are the same
pub ordered_same : (olds news : List Feed) (before after : Turns) → after ≡ before → length news ≡ length olds → ((k : ℕ) (d : Feed) → k < length olds → (get_or news k d).name ≡ (get_or olds k d).name)
    → ((k : ℕ) (d : Feed) → k < length olds → (get_or news k d).turn ≡ (get_or olds k d).turn) → IsOrdered olds before → IsOrdered news after
ordered_same olds news before after are long names same_turns o = subst (IsOrdered news) (sym are) (ordered_each olds news before long names same_turns o)

-- ---- steps of one feed

pub row_turn_alike : (f g : Feed) → IsAlike f g → row_turn g ≡ row_turn f
row_turn_alike f g a = rw (a.row.releases, a.delivery.delivery) refl

pub added_alike : (r : Release) (m : ℕ) (f g h : Feed) → IsAdded r m f g → IsAlike g h → IsAdded r m f h
added_alike r m f g h a b = record {
  delivery = record { name = b.delivery.name ∙ a.delivery.name; delivery = b.delivery.delivery ∙ a.delivery.delivery };
  out = λ le. (record { numbers = b.row.numbers ∙ (a.out le).0.numbers; releases = b.row.releases ∙ (a.out le).0.releases }, b.waiting ∙ (a.out le).1);
  later = λ lt. (record { numbers = b.row.numbers ∙ (a.later lt).0.numbers; releases = b.row.releases ∙ (a.later lt).0.releases }, b.waiting ∙ (a.later lt).1);
}

pub advanced_settled : (m : ℕ) (f g h : Feed) → IsAdvanced m f g → IsSettled g h → IsAdvanced m f h
advanced_settled m f g h a b = record {
  delivery = record { name = b.alike.delivery.name ∙ a.delivery.name; delivery = b.alike.delivery.delivery ∙ a.delivery.delivery };
  row = record { numbers = b.alike.row.numbers ∙ a.row.numbers; releases = b.alike.row.releases ∙ a.row.releases };
  waiting = b.alike.waiting ∙ a.waiting;
  fits = λ fits. b.fits (a.fits fits);
}

pub delivered_settled : (delivery : Delivery) (f g h : Feed) → IsDelivered delivery f g → IsSettled g h → IsDelivered delivery f h
delivered_settled delivery f g h a b = record {
  name = b.alike.delivery.name ∙ a.name;
  row = record { numbers = b.alike.row.numbers ∙ a.row.numbers; releases = b.alike.row.releases ∙ a.row.releases };
  waiting = b.alike.waiting ∙ a.waiting;
  stands = b.alike.delivery.delivery ∙ a.stands;
  fits = λ fits. b.fits (a.fits fits);
}

-- nothing is released
pub advanced_none : (m : ℕ) (f : Feed) → FirstIsLater m (live f.waiting.releases.items) → IsAdvanced m f f
advanced_none m f later = record {
  delivery = record { name = refl; delivery = refl };
  row = record {
    numbers = sym (moved_none number_in m f.row.numbers.items (live f.waiting.releases.items) later);
    releases = sym (moved_none moment_in m f.row.releases.items (live f.waiting.releases.items) later);
  };
  waiting = sym (left_none m (live f.waiting.releases.items) later);
  fits = λ fits. fits;
}
  where
    moved_none : (of : Release → ℕ) (m : ℕ) (row : List ℕ) (rs : List Release) → FirstIsLater m rs → moved of m row rs ≡ row
    moved_none of m row [] later = refl
    moved_none of m row (r ∷ rs) later = let b : nat_le r.moment m ≡ false = grind (arith, nat_tests) in rw b refl

    left_none : (m : ℕ) (rs : List Release) → FirstIsLater m rs → left m rs ≡ rs
    left_none m [] later = refl
    left_none m (r ∷ rs) later = let b : nat_le r.moment m ≡ false = grind (arith, nat_tests) in rw b refl
