-- Releases are withdrawn within spans of moments.
use Rattle.std.proofs.Common.{◌≡◌, ℕ, ◌<◌, Bool, true, false, cond, not, ◌&&◌, ◌||◌, ◌==◌, List, [], ◌∷◌, ◌++◌, length, map, get_or, Option, Some, None, refl, sym, ap, ◌∙◌, inl, inr, ◌⊎◌, arith}
use Rattle.std.specs.Prelude.{nat_le, nat_lt}
use Rattle.std.specs.List.{filter}
use Rattle.std.proofs.lemmas.Bool.{cases_eq}
use Rattle.std.proofs.lemmas.Bool.Decides.{nat_tests, Decides-eqb}
use Rattle.std.proofs.lemmas.List.Folds.{list_any-append}
use Rattle.std.proofs.lemmas.List.{length-map}
use Rattle.news_types.specs.Names.{Bytes, same, is_in}
use Rattle.news_types.specs.Members.{Each}
use Rattle.news_types.specs.Due.{Pub, release_to}
use Rattle.news_types.specs.Feeds.{Dispatch, inserted, dispatch, put, is_waiting, due_to, waiting_of}
use Rattle.news_types.proofs.Members.{same_self}
use Rattle.publish_queue.specs.declared.feed.Feed.{Feed}
use Rattle.publish_queue.specs.declared.release.Release.{Release}
use Rattle.publish_queue.specs.declared.release.Span.{Span}
use Rattle.publish_queue.specs.Rows.{live, is_among, has_number, is_between, without}
use Rattle.publish_queue.specs.Steps.{IsWithdrawn}
use Rattle.publish_queue.specs.Many.{Sets, EachGoes, IsWithdrawnBy, is_within, is_spanned, name_of}
use Rattle.publish_queue.specs.Keeps.{IsRow, own, own_waiting, release_of}
use Rattle.publish_queue.specs.Withdrawn.{HasRelease, HasReleaseTo, AreWithin}
use Rattle.publish_queue.proofs.Many.{Found, here_named, other_named, name_at, not_named}

-- ---- one feed

without_none : (l : List Release) → without (λ r. false) l ≡ l
without_none [] = refl
without_none (r ∷ rs) = ap (λ z. r ∷ z) (without_none rs)

without_twice : (t u : Release → Bool) (l : List Release) → without u (without t l) ≡ without (λ r. t r || u r) l
without_twice t u [] = refl
without_twice t u (r ∷ rs) = by (t r) (u r) refl (without_twice t u rs)
  where
    by : (a b : Bool) → u r ≡ b → without u (without t rs) ≡ without (λ r. t r || u r) rs
        → without u (cond (not a) (r ∷ without t rs) (without t rs)) ≡ cond (not (a || b)) (r ∷ without (λ r. t r || u r) rs) (without (λ r. t r || u r) rs)
    by true b e rest = rest
    by false true e rest = rw e rest
    by false false e rest = rw e (ap (λ z. r ∷ z) rest)

-- tests that agree
without_same : (t u : Release → Bool) (l : List Release) → ((r : Release) → t r ≡ u r) → without t l ≡ without u l
without_same t u l agree = ap (λ v. without v l) (λ i r. agree r i)

pub withdrawn_as : (t u : Release → Bool) (f g : Feed) → without t (live f.waiting.releases.items) ≡ without u (live f.waiting.releases.items) → IsWithdrawn t f g → IsWithdrawn u f g
withdrawn_as t u f g agree is = record {
  delivery = is.delivery;
  row = is.row;
  waiting = is.waiting ∙ agree;
  turn = is.turn;
  fits = is.fits;
}

withdrawn_twice : (t u : Release → Bool) (f g h : Feed) → IsWithdrawn t f g → IsWithdrawn u g h → IsWithdrawn (λ r. t r || u r) f h
withdrawn_twice t u f g h a b = record {
  delivery = record { name = b.delivery.name ∙ a.delivery.name; delivery = b.delivery.delivery ∙ a.delivery.delivery };
  row = record { numbers = b.row.numbers ∙ a.row.numbers; releases = b.row.releases ∙ a.row.releases };
  waiting = b.waiting ∙ ap (without u) a.waiting ∙ without_twice t u (live f.waiting.releases.items);
  turn = b.turn ∙ a.turn;
  fits = λ fits. b.fits (a.fits fits);
}

-- ---- the spans one after the other

and_or : (a b c : Bool) → (a && (b || c)) ≡ ((a && b) || (a && c))
and_or true b c = refl
and_or false b c = refl

or_none : (b : Bool) → (b || false) ≡ b
or_none true = refl
or_none false = refl

abbrev pub in_span : ℕ → Span → Bool
in_span moment span = nat_le span.first moment && nat_le moment span.last

within_more : (s : Bytes) (moment : ℕ) (spans : List Span) (span : Span) → is_within s moment (spans ++ span ∷ []) ≡ (is_within s moment spans || (same s span.subscriber && in_span moment span))
within_more s moment spans span =
    list_any-append (λ (x : Span). same s x.subscriber && (nat_le x.first moment && nat_le moment x.last)) spans (span ∷ [])
    ∙ ap (λ b. is_within s moment spans || b) (or_none (same s span.subscriber && in_span moment span))

spanned_here : (numbers : List ℕ) (spans : List Span) (span : Span) (s : Bytes) (r : Release) → same s span.subscriber ≡ true
    → (is_spanned numbers spans s r || is_between numbers span.first span.last r) ≡ is_spanned numbers (spans ++ span ∷ []) s r
spanned_here numbers spans span s r is =
    sym (ap (λ b. is_among r.number numbers && b) (within_more s r.moment spans span ∙ rw is refl)
    ∙ and_or (is_among r.number numbers) (is_within s r.moment spans) (in_span r.moment span))

spanned_there : (numbers : List ℕ) (spans : List Span) (span : Span) (s : Bytes) (r : Release) → same s span.subscriber ≡ false → is_spanned numbers spans s r ≡ is_spanned numbers (spans ++ span ∷ []) s r
spanned_there numbers spans span s r other =
    sym (ap (λ b. is_among r.number numbers && b) (within_more s r.moment spans span ∙ rw other (or_none (is_within s r.moment spans))))

pub spanned_none : (numbers : List ℕ) (fs : List Feed) → EachGoes (IsWithdrawnBy numbers []) fs fs
spanned_none numbers fs = record { long = refl; each = λ k d lt. stays (get_or fs k d) }
  where
    no_one : (b : Bool) → (b && false) ≡ false
    no_one true = refl
    no_one false = refl

    stays : (f : Feed) → IsWithdrawnBy numbers [] f f
    stays f = record {
      delivery = record { name = refl; delivery = refl };
      row = record { numbers = refl; releases = refl };
      waiting = sym (without_same (is_spanned numbers [] f.name) (λ r. false) (live f.waiting.releases.items) (λ r. no_one (is_among r.number numbers)) ∙ without_none (live f.waiting.releases.items));
      turn = refl;
      fits = λ fits. fits;
    }

spanned_other : (numbers : List ℕ) (spans : List Span) (span : Span) (f g : Feed) → same (name_of f) span.subscriber ≡ false → IsWithdrawnBy numbers spans f g → IsWithdrawnBy numbers (spans ++ span ∷ []) f g
spanned_other numbers spans span f g other is =
    withdrawn_as (is_spanned numbers spans f.name) (is_spanned numbers (spans ++ span ∷ []) f.name) f g
    (without_same _ _ (live f.waiting.releases.items) (λ r. spanned_there numbers spans span f.name r other)) is

-- the subscriber's feed is changed
pub spanned_step : (numbers : List ℕ) (names : List Bytes) (spans : List Span) (span : Span) (olds mids news : List Feed) (i : ℕ)
    → Found names olds i span.subscriber → EachGoes (IsWithdrawnBy numbers spans) olds mids → Sets (IsWithdrawn (is_between numbers span.first span.last)) i mids news
    → EachGoes (IsWithdrawnBy numbers (spans ++ span ∷ [])) olds news
spanned_step numbers names spans span olds mids news i f goes sets = record {
  long = sets.long ∙ goes.long;
  each = λ k d lt. at k d lt (cases_eq k i);
}
  where
    at : (k : ℕ) (d : Feed) → k < length olds → (k ≡ i) ⊎ (k ≡ i → ⊥) → IsWithdrawnBy numbers (spans ++ span ∷ []) (get_or olds k d) (get_or news k d)
    at k d lt (inl is) = subst_place is
      where
        old : Feed
        old = get_or olds i d

        named : same (name_of old) span.subscriber ≡ true
        named = ap (λ s. same s span.subscriber) (here_named names olds i span.subscriber d f) ∙ same_self span.subscriber

        here : IsWithdrawnBy numbers (spans ++ span ∷ []) old (get_or news i d)
        here = withdrawn_as _ (is_spanned numbers (spans ++ span ∷ []) old.name) old (get_or news i d)
            (without_same _ _ (live old.waiting.releases.items) (λ r. spanned_here numbers spans span old.name r named))
            (withdrawn_twice (is_spanned numbers spans old.name) (is_between numbers span.first span.last) old (get_or mids i d) (get_or news i d) (goes.each i d f.within) (sets.here d))

        subst_place : k ≡ i → IsWithdrawnBy numbers (spans ++ span ∷ []) (get_or olds k d) (get_or news k d)
        subst_place e = rw e here
    at k d lt (inr other) = rw (sets.there k d other) (spanned_other numbers spans span (get_or olds k d) (get_or mids k d) (other_named names olds i k span.subscriber d f lt other) (goes.each k d lt))

-- there is no such subscriber
pub spanned_past : (numbers : List ℕ) (spans : List Span) (span : Span) (olds news : List Feed) → is_in span.subscriber (map name_of olds) ≡ false → EachGoes (IsWithdrawnBy numbers spans) olds news
    → EachGoes (IsWithdrawnBy numbers (spans ++ span ∷ [])) olds news
spanned_past numbers spans span olds news none goes = record {
  long = goes.long;
  each = λ k d lt. spanned_other numbers spans span (get_or olds k d) (get_or news k d) (other k d lt) (goes.each k d lt);
}
  where
    other : (k : ℕ) (d : Feed) → k < length olds → same (name_of (get_or olds k d)) span.subscriber ≡ false
    other k d lt =
        let long : length (map name_of olds) ≡ length olds = length-map olds name_of in
        ap (λ t. same t span.subscriber) (sym (name_at olds k d lt)) ∙ not_named span.subscriber (map name_of olds) k (name_of d) none (omega (arith, long, lt))

-- ---- what lies in the spans is what has the numbers

each_inserted : (P : Dispatch → Type 0) (d : Dispatch) (l : List Dispatch) → P d → Each P l → Each P (inserted d l)
each_inserted P d [] here all = (here, tt)
each_inserted P d (e ∷ es) here all = by (nat_lt d.release e.release) (each_inserted P d es here all.1)
  where
    by : (b : Bool) → Each P (inserted d es) → Each P (cond b (d ∷ e ∷ es) (e ∷ inserted d es))
    by true rest = (here, all)
    by false rest = (all.0, rest)

each_due : (P : Dispatch → Type 0) (s : Bytes) (ps : List Pub) → Each (λ (p : Pub). (r : ℕ) → release_to s p.due ≡ Some r → P (dispatch p r)) ps → Each P (due_to s ps)
each_due P s [] all = tt
each_due P s (p ∷ ps) all = by (release_to s p.due) refl (each_due P s ps all.1)
  where
    by : (o : Option ℕ) → release_to s p.due ≡ o → Each P (due_to s ps) → Each P (put p o (due_to s ps))
    by None e rest = rest
    by (Some r) e rest = each_inserted P (dispatch p r) (due_to s ps) (all.0 r e) rest

each_own : (P : Dispatch → Type 0) (ps : List Pub) → Each (λ (p : Pub). P (dispatch p p.release)) ps → Each P (own ps)
each_own P [] all = tt
each_own P (p ∷ ps) all = each_inserted P (dispatch p p.release) (own ps) all.0 (each_own P ps all.1)

agree_where : (m : ℕ) (t u : Release → Bool) (l : List Dispatch) → Each (λ (d : Dispatch). m < d.release → t (release_of d) ≡ u (release_of d)) l
    → without t (map release_of (filter (is_waiting m) l)) ≡ without u (map release_of (filter (is_waiting m) l))
agree_where m t u [] all = refl
agree_where m t u (d ∷ ds) all = by (nat_lt m d.release) refl (agree_where m t u ds all.1)
  where
    rest_of : List Release
    rest_of = map release_of (filter (is_waiting m) ds)

    by : (b : Bool) → nat_lt m d.release ≡ b → without t rest_of ≡ without u rest_of
        → without t (map release_of (cond b (d ∷ filter (is_waiting m) ds) (filter (is_waiting m) ds))) ≡ without u (map release_of (cond b (d ∷ filter (is_waiting m) ds) (filter (is_waiting m) ds)))
    by false e rest = rest
    by true e rest =
        let late : m < d.release = grind (arith, nat_tests) in
        rw (all.0 late) (put_same (u (release_of d)) rest)
      where
        put_same : (b : Bool) → without t rest_of ≡ without u rest_of → cond (not b) (release_of d ∷ without t rest_of) (without t rest_of) ≡ cond (not b) (release_of d ∷ without u rest_of) (without u rest_of)
        put_same true rest = rest
        put_same false rest = ap (λ z. release_of d ∷ z) rest

both : (b c : Bool) → (b ≡ true → c ≡ true) → (b && c) ≡ b
both true c so = so refl
both false c so = refl

-- of what waits for the subscriber
within_numbers : (m : ℕ) (numbers : List ℕ) (spans : List Span) (s : Bytes) (ps : List Pub) → AreWithin m numbers spans ps
    → without (is_spanned numbers spans s) (map release_of (waiting_of ps m s)) ≡ without (has_number numbers) (map release_of (waiting_of ps m s))
within_numbers m numbers spans s ps within = agree_where m _ _ (due_to s ps) (each_due _ s ps (each_pub ps within))
  where
    each_pub : (qs : List Pub) → AreWithin m numbers spans qs
        → Each (λ (p : Pub). (r : ℕ) → release_to s p.due ≡ Some r → m < r → is_spanned numbers spans s (release_of (dispatch p r)) ≡ has_number numbers (release_of (dispatch p r))) qs
    each_pub [] all = tt
    each_pub (q ∷ qs) all = (λ r at late. both _ _ (λ among. all.0 among s r at late), each_pub qs all.1)

pub numbers_withdrawn : (m : ℕ) (numbers : List ℕ) (spans : List Span) (ps : List Pub) (f g : Feed) → AreWithin m numbers spans ps → IsRow ps m f → IsWithdrawnBy numbers spans f g → IsWithdrawn (has_number numbers) f g
numbers_withdrawn m numbers spans ps f g within is step =
    withdrawn_as (is_spanned numbers spans f.name) (has_number numbers) f g
    (ap (without (is_spanned numbers spans f.name)) is.waiting ∙ within_numbers m numbers spans f.name ps within ∙ ap (without (has_number numbers)) (sym is.waiting)) step

one_number : (k n : ℕ) → is_among k (n ∷ []) ≡ true → k ≡ n
one_number k n is = (Decides-eqb k n).0 (sym (or_none (k == n)) ∙ is)

at_its_release : (r : ℕ) → (nat_le r r && nat_le r r) ≡ true
at_its_release r = let yes : nat_le r r ≡ true = grind (arith, nat_tests) in rw yes refl

-- of the one with that number, by its release
pub own_numbers : (m n release : ℕ) (ps : List Pub) → HasRelease n release ps
    → without (is_between (n ∷ []) release release) (map release_of (own_waiting ps m)) ≡ without (has_number (n ∷ [])) (map release_of (own_waiting ps m))
own_numbers m n release ps has = agree_where m _ _ (own ps) (each_own _ ps (each_pub ps has))
  where
    each_pub : (qs : List Pub) → HasRelease n release qs
        → Each (λ (p : Pub). m < p.release → is_between (n ∷ []) release release (release_of (dispatch p p.release)) ≡ has_number (n ∷ []) (release_of (dispatch p p.release))) qs
    each_pub [] all = tt
    each_pub (q ∷ qs) all = (λ late. both _ _ (λ among. ap (λ r. nat_le release r && nat_le r release) (all.0 (one_number q.number n among)) ∙ at_its_release release), each_pub qs all.1)

pub number_withdrawn : (m n release : ℕ) (ps : List Pub) (f g : Feed) → HasReleaseTo f.name n release ps → IsRow ps m f → IsWithdrawn (is_between (n ∷ []) release release) f g → IsWithdrawn (has_number (n ∷ [])) f g
number_withdrawn m n release ps f g has is step =
    withdrawn_as (is_between (n ∷ []) release release) (has_number (n ∷ [])) f g
    (ap (without (is_between (n ∷ []) release release)) is.waiting ∙ agree_where m _ _ (due_to f.name ps) (each_due _ f.name ps (each_pub ps has)) ∙ ap (without (has_number (n ∷ []))) (sym is.waiting)) step
  where
    each_pub : (qs : List Pub) → HasReleaseTo f.name n release qs
        → Each (λ (p : Pub). (r : ℕ) → release_to f.name p.due ≡ Some r → m < r → is_between (n ∷ []) release release (release_of (dispatch p r)) ≡ has_number (n ∷ []) (release_of (dispatch p r))) qs
    each_pub [] all = tt
    each_pub (q ∷ qs) all = (λ r at late. both _ _ (λ among. ap (λ x. nat_le release x && nat_le x release) (all.0 (one_number q.number n among) r at) ∙ at_its_release release), each_pub qs all.1)
