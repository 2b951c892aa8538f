-- What is released between two moments.
use Rattle.std.proofs.Common.{◌≡◌, ℕ, ◌≤◌, Bool, true, false, cond, ◌&&◌, ◌||◌, min, get_or, List, [], ◌∷◌, map, Option, Some, None, refl, sym, ap, ◌∙◌, inl, inr, arith}
use mathlib.Core.Bool.{true≢false}
use Rattle.std.specs.Prelude.{nat_le, nat_lt}
use Rattle.std.specs.List.{All, list_any, filter}
use Rattle.std.proofs.lemmas.Bool.{cases_lt}
use Rattle.std.proofs.lemmas.Bool.Decides.{nat_tests}
use Rattle.std.proofs.lemmas.List.Elements.{All-head, All-tail}
use Rattle.news_types.specs.declared.query.Due.{Due}
use Rattle.news_types.specs.Names.{Bytes, same, is_in}
use Rattle.news_types.specs.Members.{Each}
use Rattle.news_types.specs.Due.{Pub, release_to, is_by}
use Rattle.news_types.specs.Feeds.{Dispatch, inserted, dispatch, put, is_out, is_waiting, due_to, waiting_of}
use Rattle.news_types.specs.Legal.{comes_by, is_coming}
use Rattle.news_types.proofs.Members.{same_is}
use Rattle.publish_queue.specs.declared.release.Release.{Release}
use Rattle.publish_queue.specs.declared.feed.Feed.{Feed}
use Rattle.publish_queue.specs.Rows.{live}
use Rattle.publish_queue.specs.Order.{Differ}
use Rattle.publish_queue.specs.Coming.{sooner, some_of_it, first_by, some_feed_by}
use Rattle.publish_queue.specs.Many.{name_of, names_in}
use Rattle.publish_queue.specs.Keeps.{Agree, IsFair, IsNext, own, own_waiting, release_of}
use Rattle.publish_queue.proofs.SomeOf.{both_ways, not_both, or_left, or_right, or_swap, either, any_more, any_or, any_both, any_agree, from_all}
use Rattle.publish_queue.proofs.Fair.{agree_listed, differ_listed, any_of, any_has, any_same}
use Rattle.publish_queue.proofs.OneFeed.{first_decides, rises_waiting, rises_own_waiting}

-- ---- the earlier of two moments

pub by_sooner : (n : ℕ) (a b : Option ℕ) → is_by n (sooner a b) ≡ (is_by n a || is_by n b)
by_sooner n None b = refl
by_sooner n (Some a) None = sym (or_false (nat_le a n))
  where
    or_false : (b : Bool) → (b || false) ≡ b
    or_false true = refl
    or_false false = refl
by_sooner n (Some a) (Some b) = elim (cases_lt n a) [
  | inl late ↦
      let one : nat_le a n ≡ false = grind (arith, nat_tests) in
      elim (cases_lt n b) [
        | inl later ↦
            let other : nat_le b n ≡ false = grind (arith, nat_tests) in
            let both : nat_le (min a b) n ≡ false = not_both (nat_le (min a b) n) (λ is. let le : min a b ≤ n = grind (arith, nat_tests) in omega (arith, le, late, later)) in
            rw (one, other, both) refl
        | inr early ↦
            let other : nat_le b n ≡ true = grind (arith, nat_tests) in
            let le : min a b ≤ n = omega (arith, early) in
            let both : nat_le (min a b) n ≡ true = grind (arith, nat_tests, le) in
            rw (one, other, both) refl
      ]
  | inr early ↦
      let one : nat_le a n ≡ true = grind (arith, nat_tests) in
      let le : min a b ≤ n = omega (arith, early) in
      let both : nat_le (min a b) n ≡ true = grind (arith, nat_tests, le) in
      rw (one, both) refl
]

-- ---- dispatches

pub any_place : (t : Dispatch → Bool) (d : Dispatch) (l : List Dispatch) → list_any t (inserted d l) ≡ (t d || list_any t l)
any_place t d [] = refl
any_place t d (e ∷ es) = elim (nat_lt d.release e.release) as (λ b. list_any t (cond b (d ∷ e ∷ es) (e ∷ inserted d es)) ≡ (t d || (t e || list_any t es))) [
  | true ↦ refl
  | false ↦ ap (λ b. t e || b) (any_place t d es) ∙ or_swap (t e) (t d) (list_any t es)
]

own_any : (t : ℕ → Bool) (ps : List Pub) → list_any (λ (d : Dispatch). t d.release) (own ps) ≡ list_any (λ (p : Pub). t p.release) ps
own_any t [] = refl
own_any t (p ∷ ps) = any_place (λ (d : Dispatch). t d.release) (dispatch p p.release) (own ps) ∙ ap (λ b. t p.release || b) (own_any t ps)

-- the release, if there is one, passes
abbrev pub is_so : (ℕ → Bool) → Option ℕ → Bool
is_so t None = false
is_so t (Some r) = t r

due_any : (t : ℕ → Bool) (s : Bytes) (ps : List Pub) → list_any (λ (d : Dispatch). t d.release) (due_to s ps) ≡ list_any (λ (p : Pub). is_so t (release_to s p.due)) ps
due_any t s [] = refl
due_any t s (p ∷ ps) = by (release_to s p.due) (due_any t s ps)
  where
    by : (o : Option ℕ) → list_any (λ (d : Dispatch). t d.release) (due_to s ps) ≡ list_any (λ (q : Pub). is_so t (release_to s q.due)) ps
        → list_any (λ (d : Dispatch). t d.release) (put p o (due_to s ps)) ≡ (is_so t o || list_any (λ (q : Pub). is_so t (release_to s q.due)) ps)
    by None rest = rest
    by (Some r) rest = any_place (λ (d : Dispatch). t d.release) (dispatch p r) (due_to s ps) ∙ ap (λ b. t r || b) rest

-- of what waits at m some is released by n
pub waiting_out : (m n : ℕ) (s : Bytes) (ps : List Pub) → list_any (is_out n) (waiting_of ps m s) ≡ list_any (λ (p : Pub). is_so (comes_by m n) (release_to s p.due)) ps
waiting_out m n s ps = any_both (is_waiting m) (is_out n) (due_to s ps) ∙ due_any (comes_by m n) s ps

pub own_out : (m n : ℕ) (ps : List Pub) → list_any (is_out n) (own_waiting ps m) ≡ list_any (λ (p : Pub). comes_by m n p.release) ps
own_out m n ps = any_both (is_waiting m) (is_out n) (own ps) ∙ own_any (comes_by m n) ps

so_has : (t : ℕ → Bool) (s : Bytes) (due : List Due) → is_so t (release_to s due) ≡ true → list_any (λ (d : Due). t d.release) due ≡ true
so_has t s due is = by (release_to s due) refl is
  where
    by : (o : Option ℕ) → release_to s due ≡ o → is_so t o ≡ true → list_any (λ (d : Due). t d.release) due ≡ true
    by None e passes = absurd (true≢false (sym passes))
    by (Some r) e passes = any_of t s due r e passes

-- so the publication comes
pub own_comes : (m n : ℕ) (ps : List Pub) → list_any (is_out n) (own_waiting ps m) ≡ true → list_any (is_coming m n) ps ≡ true
own_comes m n ps is = any_more (λ (p : Pub). comes_by m n p.release) (is_coming m n) ps (λ p here. or_left (comes_by m n p.release) _ here) (sym (own_out m n ps) ∙ is)

pub feed_comes : (m n : ℕ) (s : Bytes) (ps : List Pub) → list_any (is_out n) (waiting_of ps m s) ≡ true → list_any (is_coming m n) ps ≡ true
feed_comes m n s ps is = any_more (λ (p : Pub). is_so (comes_by m n) (release_to s p.due)) (is_coming m n) ps (λ p here. or_right (comes_by m n p.release) _ (so_has (comes_by m n) s p.due here)) (sym (waiting_out m n s ps) ∙ is)

pub own_still : (m n : ℕ) (ps : List Pub) → list_any (is_coming m n) ps ≡ false → list_any (is_out n) (own_waiting ps m) ≡ false
own_still m n ps none = not_both _ (λ is. true≢false (sym (own_comes m n ps is) ∙ none))

pub feed_still : (m n : ℕ) (s : Bytes) (ps : List Pub) → list_any (is_coming m n) ps ≡ false → list_any (is_out n) (waiting_of ps m s) ≡ false
feed_still m n s ps none = not_both _ (λ is. true≢false (sym (feed_comes m n s ps is) ∙ none))

-- ---- the other way

-- where one comes for a subscriber, it comes for some subscriber
some_subscriber : (t : ℕ → Bool) (ps : List Pub) (C : Type 0) → Each IsFair ps → list_any (λ (p : Pub). list_any (λ (d : Due). t d.release) p.due) ps ≡ true
    → ((s : Bytes) → list_any (λ (p : Pub). is_so t (release_to s p.due)) ps ≡ true → C) → C
some_subscriber t [] C fair is then = absurd (true≢false (sym is))
some_subscriber t (p ∷ ps) C fair is then = either _ _ C is
    (λ here. any_has t p.due C (agree_listed p.due fair.0.agree) here (λ s r at passes. then s (or_left (is_so t (release_to s p.due)) _ (ap (is_so t) at ∙ passes))))
    (λ there. some_subscriber t ps C fair.1 there (λ s at. then s (or_right (is_so t (release_to s p.due)) _ at)))

any_named : (u : Feed → Bool) (fs : List Feed) (s : Bytes) → All (λ (f : Feed). f.name ≡ s → u f ≡ true) fs → is_in s (map name_of fs) ≡ true → list_any u fs ≡ true
any_named u [] s all there = absurd (true≢false (sym there))
any_named u (f ∷ fs) s all there = by (same s f.name) refl there (any_named u fs s (All-tail (λ (g : Feed). g.name ≡ s → u g ≡ true) f fs all))
  where
    by : (b : Bool) → same s f.name ≡ b → (b || is_in s (map name_of fs)) ≡ true → (is_in s (map name_of fs) ≡ true → list_any u fs ≡ true) → (u f || list_any u fs) ≡ true
    by true e is rest = or_left (u f) _ (All-head (λ (g : Feed). g.name ≡ s → u g ≡ true) f fs all (sym (same_is s f.name e)))
    by false e is rest = or_right (u f) _ (rest is)

-- the feed has what waits for its subscriber
abbrev pub HasWaiting : List Pub → ℕ → Feed → Type 0
HasWaiting ps m f = live f.waiting.releases.items ≡ map release_of (waiting_of ps m f.name)

pub feed_first : (ps : List Pub) (m n : ℕ) (f : Feed) → HasWaiting ps m f → first_by n (live f.waiting.releases.items) ≡ list_any (is_out n) (waiting_of ps m f.name)
feed_first ps m n f is = ap (first_by n) is ∙ first_decides n (waiting_of ps m f.name) (rises_waiting ps m f.name)

-- what waits first, for itself or for somebody, decides whether a publication comes
pub coming_is : (names : List Bytes) (ps : List Pub) (m n : ℕ) (ws : List Release) (fs : List Feed) → Each IsFair ps → ((s : Bytes) → is_in s names ≡ false → due_to s ps ≡ []) → ((s : Bytes) → is_in s (map name_of fs) ≡ is_in s names)
    → ws ≡ map release_of (own_waiting ps m) → All (HasWaiting ps m) fs → (first_by n ws || some_feed_by n fs) ≡ list_any (is_coming m n) ps
coming_is names ps m n ws fs fair others named own_is all = both_ways (first_by n ws || some_feed_by n fs) (list_any (is_coming m n) ps) there back
  where
    own_first : first_by n ws ≡ list_any (is_out n) (own_waiting ps m)
    own_first = ap (first_by n) own_is ∙ first_decides n (own_waiting ps m) (rises_own_waiting ps m)

    there : (first_by n ws || some_feed_by n fs) ≡ true → list_any (is_coming m n) ps ≡ true
    there is = either (first_by n ws) (some_feed_by n fs) (list_any (is_coming m n) ps ≡ true) is
        (λ here. own_comes m n ps (sym own_first ∙ here))
        (λ some. from_all (HasWaiting ps m) (λ (f : Feed). first_by n (live f.waiting.releases.items)) fs (list_any (is_coming m n) ps ≡ true) all some (λ f has here. feed_comes m n f.name ps (sym (feed_first ps m n f has) ∙ here)))

    known : (s : Bytes) → list_any (λ (p : Pub). is_so (comes_by m n) (release_to s p.due)) ps ≡ true → (b : Bool) → is_in s names ≡ b → b ≡ true
    known s at true e = refl
    known s at false e = absurd (true≢false (sym at ∙ sym (waiting_out m n s ps) ∙ ap (λ l. list_any (is_out n) (filter (is_waiting m) l)) (others s e)))

    back : list_any (is_coming m n) ps ≡ true → (first_by n ws || some_feed_by n fs) ≡ true
    back is = either (list_any (λ (p : Pub). comes_by m n p.release) ps) (list_any (λ (p : Pub). list_any (λ (d : Due). comes_by m n d.release) p.due) ps) ((first_by n ws || some_feed_by n fs) ≡ true) (sym (any_or (λ (p : Pub). comes_by m n p.release) (λ (p : Pub). list_any (λ (d : Due). comes_by m n d.release) p.due) ps) ∙ is)
        (λ here. or_left (first_by n ws) (some_feed_by n fs) (own_first ∙ own_out m n ps ∙ here))
        (λ some. some_subscriber (comes_by m n) ps ((first_by n ws || some_feed_by n fs) ≡ true) fair some (λ s at.
        or_right (first_by n ws) (some_feed_by n fs) (any_named (λ (f : Feed). first_by n (live f.waiting.releases.items)) fs s
        (λ k d lt e. feed_first ps m n (get_or fs k d) (all k d lt) ∙ ap (λ t. list_any (is_out n) (waiting_of ps m t)) e ∙ waiting_out m n s ps ∙ at)
        (named s ∙ known s at (is_in s names) refl))))

-- ---- a later moment

still_by : (m n k r : ℕ) → m ≤ n → comes_by m n r ≡ false → comes_by m k r ≡ comes_by n k r
still_by m n k r le none = elim (cases_lt n r) [
  | inl late ↦
      let one : nat_lt m r ≡ true = grind (arith, nat_tests) in
      let other : nat_lt n r ≡ true = grind (arith, nat_tests) in
      rw (one, other) refl
  | inr early ↦
      let other : nat_lt n r ≡ false = grind (arith, nat_tests) in
      let by_n : nat_le r n ≡ true = grind (arith, nat_tests) in
      let one : nat_lt m r ≡ false = first_false (nat_lt m r) (nat_le r n) none by_n in
      rw (one, other) refl
]
  where
    first_false : (a b : Bool) → (a && b) ≡ false → b ≡ true → a ≡ false
    first_false true b both is = absurd (true≢false (sym is ∙ both))
    first_false false b both is = refl

-- where nothing comes by n, the same comes behind n
pub still_coming : (m n k : ℕ) (ps : List Pub) → m ≤ n → list_any (is_coming m n) ps ≡ false → list_any (is_coming m k) ps ≡ list_any (is_coming n k) ps
still_coming m n k ps le none = any_agree (is_coming m n) (is_coming m k) (is_coming n k) ps one none
  where
    or_none : (a b : Bool) → (a || b) ≡ false → (a ≡ false) × (b ≡ false)
    or_none true b is = absurd (true≢false is)
    or_none false b is = (refl, is)

    one : (p : Pub) → is_coming m n p ≡ false → is_coming m k p ≡ is_coming n k p
    one p no-one =
        let apart = or_none (comes_by m n p.release) (list_any (λ (d : Due). comes_by m n d.release) p.due) no-one in
        rw (still_by m n k p.release le apart.0, any_agree (λ (d : Due). comes_by m n d.release) (λ (d : Due). comes_by m k d.release) (λ (d : Due). comes_by n k d.release) p.due (λ d is. still_by m n k d.release le is) apart.1) refl

-- ---- the next moment

-- one more publication
pub next_added : (ps : List Pub) (m : ℕ) (p : Pub) (due : List Due) (before after : Option ℕ) → Agree p.due → Differ (names_in due) → ((s : Bytes) → release_to s p.due ≡ release_to s due)
    → IsNext ps m before → ((n : ℕ) → is_by n after ≡ (some_of_it m n p.release due || is_by n before)) → IsNext (p ∷ ps) m after
next_added ps m p due before after agree differ alike next is n =
    let releases : list_any (λ (d : Due). comes_by m n d.release) p.due ≡ list_any (λ (d : Due). comes_by m n d.release) due = any_same (comes_by m n) p.due due (agree_listed p.due agree) (differ_listed due differ) alike in
    is n ∙ ap (λ b. some_of_it m n p.release due || b) (next n) ∙ ap (λ b. (comes_by m n p.release || b) || list_any (is_coming m n) ps) (sym releases)

-- what waits first is it
pub next_known : (names listed : List Bytes) (ps : List Pub) (m : ℕ) (ws : List Release) (fs : List Feed) (next : Option ℕ) → Each IsFair ps → ((s : Bytes) → is_in s names ≡ false → due_to s ps ≡ [])
    → map name_of fs ≡ listed → ((s : Bytes) → is_in s listed ≡ is_in s names) → ws ≡ map release_of (own_waiting ps m) → All (HasWaiting ps m) fs
    → ((n : ℕ) → is_by n next ≡ (first_by n ws || some_feed_by n fs)) → IsNext ps m next
next_known names listed ps m ws fs next fair others named subscribed own_is all is n = is n ∙ coming_is names ps m n ws fs fair others (λ s. ap (is_in s) named ∙ subscribed s) own_is all
