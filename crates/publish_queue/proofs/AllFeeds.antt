-- The whole queue, before and after a call.
use Rattle.std.proofs.Common.{◌≡◌, ℕ, zero, suc, ◌+◌, ◌-◌, ◌<◌, ◌≤◌, Bool, true, false, cond, ◌||◌, ◌&&◌, ◌==◌, List, [], ◌∷◌, length, map, get_or, take, drop, slice_get, refl, sym, ap, subst, ◌∙◌, arith, Result, Ok, Err, OnOk, Option, Some, None, vec_capacity, ◌⊎◌, inl, inr}
use mathlib.Core.Bool.{true≢false}
use Rattle.std.specs.Option.{option_map}
use Rattle.std.specs.List.{All, list_any, insert}
use Rattle.std.proofs.lemmas.Bool.{cases_eq}
use Rattle.std.proofs.lemmas.List.{length-map}
use Rattle.std.proofs.lemmas.List.Elements.{All-append, All-take, All-drop, All-cons}
use Rattle.std.specs.Cmp.Lexicographic.{nat_list_eq_equiv}
use Rattle.news_types.specs.declared.query.Due.{Due}
use Rattle.news_types.specs.Names.{Bytes, same, is_in}
use Rattle.news_types.specs.Due.{Pub, release_to, is_due}
use Rattle.news_types.specs.Frames.{numbered}
use Rattle.news_types.specs.Feeds.{Dispatch, due_to}
use Rattle.std.specs.Prelude.{nat_lt, IsTrue}
use Rattle.std.proofs.lemmas.Bool.Decides.{nat_tests}
use Rattle.news_types.specs.Delivery.{ready_from, retry_delay, is_by}
use Rattle.news_types.specs.Legal.{is_coming}
use Rattle.news_types.proofs.Members.{same_is, same_self}
use Rattle.news_types.proofs.Dues.{release_from}
use Rattle.publish_queue.specs.declared.feed.Delivery.{Delivery}
use Rattle.publish_queue.specs.declared.feed.Feed.{Feed}
use Rattle.publish_queue.specs.declared.queue.Feeds.{Feeds}
use Rattle.publish_queue.specs.declared.queue.Queue.{Queue}
use Rattle.publish_queue.specs.declared.release.Span.{Span}
use Rattle.publish_queue.specs.declared.turns.Turns.{Turns}
use Rattle.publish_queue.specs.Rows.{has_number}
use Rattle.publish_queue.specs.Ready.{row_turn}
use Rattle.publish_queue.specs.Steps.{SameDelivery, IsEmptyFeed, IsAdded, IsWithdrawn}
use Rattle.publish_queue.specs.Turns.{one}
use Rattle.publish_queue.specs.Many.{Sets, EachGoes, OneGoes, Spread, IsSame, IsAddedTo, IsAdvancedTo, IsDeliveredTo, IsWithdrawnBy, IsOrdered, turn_in, turn_count, name_of, release_by}
use Rattle.publish_queue.specs.Keeps.{Facts, Keeps, IsRow, Stands, IsFeed, IsUntouched, IsFair, delivered, number_of, turn_of}
use Rattle.publish_queue.proofs.Ascending as ascending
use Rattle.publish_queue.proofs.ByName.{names_order}
use Rattle.publish_queue.proofs.Entries.{get_map}
use Rattle.publish_queue.proofs.Many.{Found, name_at, here_named, other_named}
use Rattle.publish_queue.proofs.InTurn.{holds_same}
use Rattle.publish_queue.proofs.OneFeed.{is_row_alike, is_row_still, is_row_advanced, is_row_added, due_passed, feed_stays}
use Rattle.publish_queue.proofs.Comings.{HasWaiting, feed_still}
use Rattle.publish_queue.proofs.Turning.{turn_is}
use Rattle.publish_queue.specs.Withdrawn.{AreWithin}
use Rattle.publish_queue.proofs.Spanned.{numbers_withdrawn}
use Rattle.publish_queue.proofs.Withdrawal.{Leaves, feed_left, is_row_withdrawn}

pub on_ok : {T E : Type 0} {P Q : Type 0} (r : Result T E) → OnOk r P → (P → Q) → OnOk r Q
on_ok (Ok x) p f = f p
on_ok (Err e) p f = tt

-- ---- a feed is put in

pub map_insert : (fs : List Feed) (i : ℕ) (f : Feed) → map name_of (insert fs i f) ≡ insert (map name_of fs) i (name_of f)
map_insert fs zero f = refl
map_insert [] (suc i) f = refl
map_insert (g ∷ gs) (suc i) f = ap (λ ns. name_of g ∷ ns) (map_insert gs i f)

pub in_insert : (s t : Bytes) (ns : List Bytes) (i : ℕ) → is_in s (insert ns i t) ≡ (same s t || is_in s ns)
in_insert s t ns i = ascending.in_insert names_order s t ns i

pub all_insert : (P : Feed → Type 0) (fs : List Feed) (i : ℕ) (f : Feed) → P f → All P fs → All P (insert fs i f)
all_insert P fs i f here all = All-append P (take i fs) (f ∷ drop i fs) (All-take P i fs all) (All-cons P f (drop i fs) here (All-drop P i fs all))

no_turn : (fs : List Feed) (s : Bytes) → is_in s (map name_of fs) ≡ false → turn_in fs s ≡ None
no_turn [] s none = refl
no_turn (f ∷ fs) s none = by (same s f.name) refl none (no_turn fs s)
  where
    by : (b : Bool) → same s f.name ≡ b → (b || is_in s (map name_of fs)) ≡ false → (is_in s (map name_of fs) ≡ false → turn_in fs s ≡ None) → cond (same f.name s) f.turn (turn_in fs s) ≡ None
    by true e yes-one rest = absurd (true≢false yes-one)
    by false e rest-none rest = rw (nat_list_eq_equiv.symm f.name s ∙ e) (rest rest-none)

cond_none : (b : Bool) (o : Option ℕ) → (b ≡ true → o ≡ None) → cond b None o ≡ o
cond_none true o none = sym (none refl)
cond_none false o none = refl

turn_insert : (fs : List Feed) (i : ℕ) (f : Feed) (s : Bytes) → f.turn ≡ None → is_in f.name (map name_of fs) ≡ false → turn_in (insert fs i f) s ≡ turn_in fs s
turn_insert fs zero f s none apart = rw none (cond_none (same f.name s) (turn_in fs s) (λ e. ap (turn_in fs) (sym (same_is f.name s e)) ∙ no_turn fs f.name apart))
turn_insert [] (suc i) f s none apart = rw none (cond_none (same f.name s) None (λ e. refl))
turn_insert (h ∷ hs) (suc i) f s none apart = ap (λ o. cond (same h.name s) h.turn o) (turn_insert hs i f s none (rest (same f.name h.name) apart))
  where
    rest : (b : Bool) → (b || is_in f.name (map name_of hs)) ≡ false → is_in f.name (map name_of hs) ≡ false
    rest true e = absurd (true≢false e)
    rest false e = e

count_insert : (fs : List Feed) (i : ℕ) (f : Feed) → f.turn ≡ None → turn_count (insert fs i f) ≡ turn_count fs
count_insert fs zero f none = rw none (omega arith)
count_insert [] (suc i) f none = rw none (omega arith)
count_insert (h ∷ hs) (suc i) f none = ap (λ n. one h.turn + n) (count_insert hs i f none)

pub ordered_insert : (fs : List Feed) (turns : Turns) (i : ℕ) (f : Feed) → f.turn ≡ None → is_in f.name (map name_of fs) ≡ false → length (insert fs i f) ≤ vec_capacity turns.turns
    → IsOrdered fs turns → IsOrdered (insert fs i f) turns
ordered_insert fs turns i f none apart room o = record {
  holds = holds_same turns (turn_in fs) (turn_in (insert fs i f)) o.holds (λ s. turn_insert fs i f s none apart);
  count = o.count ∙ sym (count_insert fs i f none);
  room = room;
}

-- ---- how a delivery stands

pub stands_same : (known : Facts) (f g : Feed) → SameDelivery f g → Stands known f → Stands known g
stands_same known f g same_one is = record {
  receipt = rw (same_one.name, same_one.delivery) is.receipt;
  attempts = rw (same_one.name, same_one.delivery) is.attempts;
  last = rw (same_one.name, same_one.delivery) is.last;
}

module _ (known : Facts) where
  -- the feed of a subscriber to whom nothing was due
  pub is_first_feed : (s : Bytes) (f : Feed) → IsUntouched known s → IsEmptyFeed s f → IsFeed known f
  is_first_feed s f none is = record {
    rows = record {
      row = record { numbers = rw (is.name, none.due) is.row.numbers; releases = rw (is.name, none.due) is.row.releases };
      waiting = rw (is.name, none.due) is.waiting;
    };
    stands = record {
      receipt = rw (is.name, none.receipt) is.acked;
      attempts = rw (is.name, none.attempts) is.tries;
      last = rw (is.name, none.last) is.tried;
    };
    turn = rw (is.name, none.due) is.turn;
  }

  pub is_feed_same : (f g : Feed) → IsFeed known f → IsSame f g → IsFeed known g
  is_feed_same f g is step = record {
    rows = is_row_alike known.publications known.moment f g is.rows step.alike;
    stands = stands_same known f g step.alike.delivery is.stands;
    turn = rw step.alike.delivery.name (step.turn ∙ is.turn);
  }

  stands_otherwise : (ps : List Pub) (n : ℕ) (f : Feed) → Stands known f → Stands (record known { publications = ps; moment = n }) f
  stands_otherwise ps n f is = record { receipt = is.receipt; attempts = is.attempts; last = is.last }

  -- a feed does not depend on who is a subscriber
  pub is_feed_listed : (s : Bytes) (fs : List Feed) → All (IsFeed known) fs → All (IsFeed (record known { names = s ∷ known.names })) fs
  is_feed_listed s fs all k d lt =
      let is = all k d lt in
      let stands : Stands (record known { names = s ∷ known.names }) (get_or fs k d) = record { receipt = is.stands.receipt; attempts = is.stands.attempts; last = is.stands.last } in
      record { rows = is.rows; stands = stands; turn = is.turn }

  pub is_feed_still : (n : ℕ) (f : Feed) → known.moment ≤ n → list_any (is_coming known.moment n) known.publications ≡ false → IsFeed known f → IsFeed (record known { moment = n }) f
  is_feed_still n f le none is =
      let still = feed_still known.moment n f.name known.publications none in
      record {
        rows = is_row_still known.publications known.moment n f le still is.rows;
        stands = stands_otherwise known.publications n f is.stands;
        turn = rw (feed_stays known.publications known.moment n f.name le still) is.turn;
      }

  pub is_feed_advanced : (n : ℕ) (f g : Feed) → known.moment ≤ n → IsFeed known f → IsAdvancedTo n f g → IsFeed (record known { moment = n }) g
  is_feed_advanced n f g le is step =
      let rows : IsRow known.publications n g = is_row_advanced known.publications known.moment n f g le is.rows step.advanced in
      let stands = stands_otherwise known.publications n g (stands_same known f g step.advanced.delivery is.stands) in
      let before : f.turn ≡ row_turn f = is.turn ∙ sym (turn_is known f is.rows is.stands) in
      record {
        rows = rows;
        stands = stands;
        turn = step.turn before ∙ turn_is (record known { moment = n }) g rows stands;
      }

  -- some of what waits is left
  pub is_feed_withdrawn : (numbers : List ℕ) (qs : List Pub) (f g : Feed) → Leaves known.moment numbers f.name known.publications qs → IsFeed known f → IsWithdrawn (has_number numbers) f g → IsFeed (record known { publications = qs }) g
  is_feed_withdrawn numbers qs f g leaves is step =
      let s = f.name in
      record {
        rows = is_row_withdrawn known.moment numbers known.publications qs f g leaves is.rows step;
        stands = stands_otherwise qs known.moment g (stands_same known f g step.delivery is.stands);
        turn = step.turn ∙ is.turn ∙ ap (λ l. ready_from (slice_get l (known.acked s)) (known.tries s) (known.tried s)) (sym (feed_left known.moment numbers s known.publications qs leaves))
            ∙ ap (turn_of (record known { publications = qs })) (sym step.delivery.name);
      }

  pub is_feed_spanned : (numbers : List ℕ) (spans : List Span) (qs : List Pub) (f g : Feed) → Leaves known.moment numbers f.name known.publications qs → AreWithin known.moment numbers spans known.publications
      → IsFeed known f → IsWithdrawnBy numbers spans f g → IsFeed (record known { publications = qs }) g
  is_feed_spanned numbers spans qs f g leaves within is step = is_feed_withdrawn numbers qs f g leaves is (numbers_withdrawn known.moment numbers spans known.publications f g within is.rows step)

  -- nothing that is due to it is another
  pub is_feed_kept : (qs : List Pub) (f : Feed) → due_to f.name qs ≡ due_to f.name known.publications → IsFeed known f → IsFeed (record known { publications = qs }) f
  is_feed_kept qs f alike is = record {
    rows = record {
      row = record { numbers = rw alike is.rows.row.numbers; releases = rw alike is.rows.row.releases };
      waiting = rw alike is.rows.waiting;
    };
    stands = stands_otherwise qs known.moment f is.stands;
    turn = rw alike is.turn;
  }

  is_feed_added : (p : Pub) (r : ℕ) (f g : Feed) → known.moment ≤ r → release_to f.name p.due ≡ Some r → IsFeed known f → IsAddedTo p.number known.moment r f g → IsFeed (record known { publications = p ∷ known.publications }) g
  is_feed_added p r f g le due is step =
      let added : IsAdded (release_by p.number r) known.moment f g = step.added in
      let rows : IsRow (p ∷ known.publications) known.moment g = is_row_added known.publications known.moment p r f g le due is.rows added in
      let stands = stands_otherwise (p ∷ known.publications) known.moment g (stands_same known f g added.delivery is.stands) in
      record {
        rows = rows;
        stands = stands;
        turn = step.turn ∙ turn_is (record known { publications = p ∷ known.publications }) g rows stands;
      }

  added_one : (p : Pub) (due : List Due) (f g : Feed) → known.moment ≤ p.release → IsFair p → ((s : Bytes) → release_to s p.due ≡ release_to s due)
      → IsFeed known f → ((r : ℕ) → release_to f.name due ≡ Some r → IsAddedTo p.number known.moment r f g) → (release_to f.name due ≡ None → g ≡ f)
      → (o : Option ℕ) → release_to f.name due ≡ o → IsFeed (record known { publications = p ∷ known.publications }) g
  added_one p due f g le fair alike is changed kept None e = rw (kept e) (is_feed_kept (p ∷ known.publications) f (due_passed f.name p known.publications (alike f.name ∙ e)) is)
  added_one p due f g le fair alike is changed kept (Some r) e =
      let here : release_to f.name p.due ≡ Some r = alike f.name ∙ e in
      let from : p.release ≤ r = release_from p.release f.name p.due r fair.from here in
      is_feed_added p r f g (omega (arith, le, from)) here is (changed r e)

  -- one more publication
  pub feeds_added : (p : Pub) (due : List Due) (olds news : List Feed)
      → Spread (IsAddedTo p.number known.moment) due olds news → known.moment ≤ p.release → IsFair p → ((s : Bytes) → release_to s p.due ≡ release_to s due)
      → All (IsFeed known) olds → All (IsFeed (record known { publications = p ∷ known.publications })) news
  feeds_added p due olds news spread le fair alike all k d lt =
      let within : k < length olds = omega (arith, spread.long, lt) in
      added_one p due (get_or olds k d) (get_or news k d) le fair alike (all k d within) (λ r. spread.changed k d r within) (spread.kept k d within) (release_to (name_of (get_or olds k d)) due) refl

  pub have_waiting : (fs : List Feed) → All (IsFeed known) fs → All (HasWaiting known.publications known.moment) fs
  have_waiting fs all k d lt = (all k d lt).rows.waiting

  -- the feed that was read where a search found it
  pub feed_at : (fs : Feeds) (i : ℕ) (s : Bytes) (f : Feed) → (i < length fs.names.items) × ((e : Bytes) → get_or fs.names.items i e ≡ s) → f ≡ get_or fs.feeds.items i f
      → All (IsFeed known) fs.feeds.items → (f.name ≡ s) × IsFeed known f
  feed_at fs i s f found is all =
      let long : length (map name_of fs.feeds.items) ≡ length fs.feeds.items = length-map fs.feeds.items name_of in
      let same_long : length (map name_of fs.feeds.items) ≡ length fs.names.items = ap length fs.named in
      let within : i < length fs.feeds.items = omega (arith, long, same_long, found.0) in
      (ap name_of is ∙ sym (name_at fs.feeds.items i f within) ∙ ap (λ ns. get_or ns i f.name) fs.named ∙ found.1 f.name, subst (IsFeed known) (sym is) (all i f within))

-- each feed goes on
pub feeds_go : (R : Feed → Feed → Type 0) (P Q : Feed → Type 0) (olds news : List Feed) → EachGoes R olds news → ((f g : Feed) → P f → R f g → Q g) → All P olds → All Q news
feeds_go R P Q olds news goes each all k d lt =
    let within : k < length olds = omega (arith, goes.long, lt) in
    each (get_or olds k d) (get_or news k d) (all k d within) (goes.each k d within)

-- the feed at a place goes another way than the others
pub feeds_set : (R : Feed → Feed → Type 0) (P Q : Feed → Type 0) (names : List Bytes) (olds news : List Feed) (i : ℕ) (s : Bytes) → Found names olds i s → Sets R i olds news
    → ((f g : Feed) → name_of f ≡ s → P f → R f g → Q g) → ((f : Feed) → same (name_of f) s ≡ false → P f → Q f) → All P olds → All Q news
feeds_set R P Q names olds news i s found sets here there all k d lt = by (cases_eq k i)
  where
    within : k < length olds
    within = omega (arith, sets.long, lt)

    by : (k ≡ i) ⊎ (k ≡ i → ⊥) → Q (get_or news k d)
    by (inl is) = rw is (here (get_or olds i d) (get_or news i d) (here_named names olds i s d found) (all i d found.within) (sets.here d))
    by (inr other) = rw (sets.there k d other) (there (get_or olds k d) (other_named names olds i k s d found within other) (all k d within))

pub feeds_one : (R : Feed → Feed → Type 0) (P Q : Feed → Type 0) (s : Bytes) (olds news : List Feed) → OneGoes R s olds news
    → ((f g : Feed) → same f.name s ≡ true → P f → R f g → Q g) → ((f : Feed) → same f.name s ≡ false → P f → Q f) → All P olds → All Q news
feeds_one R P Q s olds news goes here there all k d lt = by (same (name_of (get_or olds k d)) s) refl
  where
    within : k < length olds
    within = omega (arith, goes.long, lt)

    by : (b : Bool) → same (name_of (get_or olds k d)) s ≡ b → Q (get_or news k d)
    by true is = here (get_or olds k d) (get_or news k d) is (all k d within) (goes.changed k d within is)
    by false is = rw (goes.kept k d within is) (there (get_or olds k d) is (all k d within))

-- ---- others

-- the subscribers are as they were
pub subscribed_still : (olds news names : List Bytes) → news ≡ olds → ((s : Bytes) → is_in s olds ≡ is_in s names) → (s : Bytes) → is_in s news ≡ is_in s names
subscribed_still olds news names are subscribed s = ap (is_in s) are ∙ subscribed s

pub untouched_listed : (known : Facts) (s t : Bytes) → IsUntouched known t → IsUntouched (record known { names = s ∷ known.names }) t
untouched_listed known s t is = record { due = is.due; receipt = is.receipt; attempts = is.attempts; last = is.last }

pub untouched_later : (known : Facts) (n : ℕ) (s : Bytes) → IsUntouched known s → IsUntouched (record known { moment = n }) s
untouched_later known n s is = record { due = is.due; receipt = is.receipt; attempts = is.attempts; last = is.last }

pub still_untouched : (known : Facts) (p : Pub) (s : Bytes) → release_to s p.due ≡ None → IsUntouched known s → IsUntouched (record known { publications = p ∷ known.publications }) s
still_untouched known p s none is = record {
  due = due_passed s p known.publications none ∙ is.due;
  receipt = is.receipt;
  attempts = is.attempts;
  last = is.last;
}

-- whom the publication is not due to
pub apart_from : (s : Bytes) (p : Pub) (names : List Bytes) → ((t : Bytes) → is_due t p ≡ true → is_in t names ≡ true) → is_in s names ≡ false → release_to s p.due ≡ None
apart_from s p names there none = by (release_to s p.due) refl
  where
    by : (o : Option ℕ) → release_to s p.due ≡ o → o ≡ None
    by None e = refl
    by (Some r) e = absurd (true≢false (sym (there s (rw e refl)) ∙ none))

-- entries are counted from 1
pub entry_at : (ps : List Dispatch) (k i : ℕ) → 1 ≤ k → i ≡ k - 1 → slice_get (map number_of ps) i ≡ option_map number_of (numbered ps k)
entry_at ps zero i le is = absurd (omega (arith, le))
entry_at ps (suc k) i le is = let e : i ≡ k = omega (arith, is) in rw e (get_map number_of ps k)

-- ---- a delivery stands otherwise

set_here : (s t : Bytes) (n : ℕ) (before : Bytes → ℕ) → t ≡ s → cond (same s t) n (before t) ≡ n
set_here s t n before e = rw (e, same_self s) refl

set_there : (s t : Bytes) (n : ℕ) (before : Bytes → ℕ) → same t s ≡ false → cond (same s t) n (before t) ≡ before t
set_there s t n before other = rw (nat_list_eq_equiv.symm s t ∙ other) refl

pub feeds_delivered : (known : Facts) (names : List Bytes) (olds news : List Feed) (i : ℕ) (s : Bytes) (delivery : Delivery) → Found names olds i s → Sets (IsDeliveredTo delivery) i olds news
    → All (IsFeed known) olds → All (IsFeed (delivered delivery s known)) news
feeds_delivered known names olds news i s delivery found sets all =
    feeds_set (IsDeliveredTo delivery) (IsFeed known) (IsFeed (delivered delivery s known)) names olds news i s found sets here there all
  where
    here : (f g : Feed) → name_of f ≡ s → IsFeed known f → IsDeliveredTo delivery f g → IsFeed (delivered delivery s known) g
    here f g name is step =
        let name_is : name_of g ≡ s = step.delivered.name ∙ name in
        let rows : IsRow known.publications known.moment g = record {
          row = record { numbers = rw step.delivered.name (step.delivered.row.numbers ∙ is.rows.row.numbers); releases = rw step.delivered.name (step.delivered.row.releases ∙ is.rows.row.releases) };
          waiting = rw step.delivered.name (step.delivered.waiting ∙ is.rows.waiting);
        } in
        let stands : Stands (delivered delivery s known) g = record {
          receipt = ap (λ (x : Delivery). x.acked) step.delivered.stands ∙ sym (set_here s (name_of g) delivery.acked known.acked name_is);
          attempts = ap (λ (x : Delivery). x.tries) step.delivered.stands ∙ sym (set_here s (name_of g) delivery.tries known.tries name_is);
          last = ap (λ (x : Delivery). x.tried) step.delivered.stands ∙ sym (set_here s (name_of g) delivery.tried known.tried name_is);
        } in
        record {
          rows = rows;
          stands = stands;
          turn = step.turn ∙ turn_is (delivered delivery s known) g rows stands;
        }

    there : (f : Feed) → same (name_of f) s ≡ false → IsFeed known f → IsFeed (delivered delivery s known) f
    there f other is =
        let acked_is = set_there s f.name delivery.acked known.acked other in
        let tries_are = set_there s f.name delivery.tries known.tries other in
        let tried_is = set_there s f.name delivery.tried known.tried other in
        record {
          rows = is.rows;
          stands = record { receipt = rw acked_is is.stands.receipt; attempts = rw tries_are is.stands.attempts; last = rw tried_is is.stands.last };
          turn = rw (acked_is, tries_are, tried_is) is.turn;
        }

-- the others are as they were
pub untouched_then : (known : Facts) (s t : Bytes) (delivery : Delivery) → same t s ≡ false → IsUntouched known t → IsUntouched (delivered delivery s known) t
untouched_then known s t delivery other is = record {
  due = is.due;
  receipt = set_there s t delivery.acked known.acked other ∙ is.receipt;
  attempts = set_there s t delivery.tries known.tries other ∙ is.attempts;
  last = set_there s t delivery.tried known.tried other ∙ is.last;
}

-- the facts where it stands so, told otherwise
pub keeps_delivered : (q : Queue) (s : Bytes) (known : Facts) (a t l : ℕ) (acked tries tried : Bytes → ℕ)
    → ((u : Bytes) → acked u ≡ cond (same s u) a (known.acked u)) → ((u : Bytes) → tries u ≡ cond (same s u) t (known.tries u)) → ((u : Bytes) → tried u ≡ cond (same s u) l (known.tried u))
    → Keeps q (record known { acked = λ u. cond (same s u) a (known.acked u); tries = λ u. cond (same s u) t (known.tries u); tried = λ u. cond (same s u) l (known.tried u) })
    → Keeps q (record known { acked = acked; tries = tries; tried = tried })
keeps_delivered q s known a t l acked tries tried receipts attempts last keeps =
    subst (Keeps q) (λ i. record known { acked = λ u. sym (receipts u) i; tries = λ u. sym (attempts u) i; tried = λ u. sym (last u) i }) keeps

-- who is not there is not one who is
pub another : (s t : Bytes) (names : List Bytes) → is_in s names ≡ true → is_in t names ≡ false → same t s ≡ false
another s t names there none = by (same t s) refl
  where
    by : (b : Bool) → same t s ≡ b → b ≡ false
    by true e = absurd (true≢false (sym there ∙ ap (λ u. is_in u names) (sym (same_is t s e)) ∙ none))
    by false e = refl

-- a number in place of one that it equals
pub set_as : (s : Bytes) (n : ℕ) (before : Bytes → ℕ) (value : Bytes → ℕ) → value s ≡ n → (t : Bytes) → cond (same s t) (value t) (before t) ≡ cond (same s t) n (before t)
set_as s n before value is t = by (same s t) refl
  where
    by : (b : Bool) → same s t ≡ b → cond b (value t) (before t) ≡ cond b n (before t)
    by true e = ap value (sym (same_is s t e)) ∙ is
    by false e = refl

-- a fact that stays
pub set_same : (s : Bytes) (n : ℕ) (fact : Bytes → ℕ) → n ≡ fact s → (t : Bytes) → fact t ≡ cond (same s t) n (fact t)
set_same s n fact is t = by (same s t) refl
  where
    by : (b : Bool) → same s t ≡ b → fact t ≡ cond b n (fact t)
    by true e = ap fact (sym (same_is s t e)) ∙ sym is
    by false e = refl

-- a test that holds of it
pub set_if : (s : Bytes) (before : Bytes → ℕ) (test : Bytes → Bool) → test s ≡ true → (t : Bytes) → cond (same s t && test t) 0 (before t) ≡ cond (same s t) 0 (before t)
set_if s before test is t = by (same s t) refl
  where
    by : (b : Bool) → same s t ≡ b → cond (b && test t) 0 (before t) ≡ cond b 0 (before t)
    by true e = rw (ap test (sym (same_is s t e)) ∙ is) refl
    by false e = refl

-- a feed that is ready is behind few attempts
pub few_tries : (o : Option Dispatch) (n last m : ℕ) → IsTrue (is_by m (ready_from o n last)) → n < 10
few_tries None n last m ready = absurd (true≢false (sym ready))
few_tries (Some p) n last m ready = by (n == 0) refl (nat_lt n 10) refl ready
  where
    by : (a : Bool) → (n == 0) ≡ a → (b : Bool) → nat_lt n 10 ≡ b → IsTrue (is_by m (cond a (Some p.release) (cond b (Some (last + retry_delay n)) None))) → n < 10
    by true e b f r = grind (arith, nat_tests)
    by false e true f r = grind (arith, nat_tests)
    by false e false f r = absurd (true≢false (sym r))
