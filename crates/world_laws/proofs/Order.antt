-- Feeds are in order of release for the subscriber and then number.
use Rattle.std.proofs.Common.{◌≡◌, ℕ, zero, suc, ◌<◌, ◌≤◌, ◌⊎◌, inl, inr, Bool, true, false, cond, Option, Some, None, List, [], ◌∷◌, subst, arith}
use Rattle.std.specs.Prelude.{nat_lt, slice_get}
use Rattle.std.specs.List.{filter}
use Rattle.std.proofs.lemmas.Bool.Decides.{nat_tests}
use Rattle.std.proofs.lemmas.Bool.{cases_lt}
use Rattle.news_types.specs.Names.{Bytes}
use Rattle.news_types.specs.History.{History, moment}
use Rattle.news_types.specs.Due.{Pub, release_to}
use Rattle.news_types.specs.Publications.{standing}
use Rattle.news_types.specs.Feeds.{Dispatch, dispatch, inserted, put, is_out, due_to, feed}
use Rattle.news_types.specs.Members.{Each}
use Rattle.world_laws.specs.FeedOrder.{ComesBefore, FeedsInOrder}
use Rattle.news_types.proofs.Members.{some_is, none_some, each_map, each_get, each_filter, each_passes}
use Rattle.news_types.proofs.Dues.{IsFair, release_from, standing_are_fair}
use Rattle.news_types.proofs.Numbering.{each_place, each_due_to, each_feed, Falls, standing_falls}

abbrev InRow : List Dispatch → Type 0
InRow [] = Unit {0}
InRow (d ∷ ds) = Each (ComesBefore d) ds × InRow ds

before_all : (d e f : Dispatch) → d.release < e.release → ComesBefore e f → ComesBefore d f
before_all d e f less next = elim next [ inl lt ↦ inl (omega (arith, less, lt)) | inr eq ↦ inl (omega (arith, less, eq.0)) ]

place_row : (d : Dispatch) (l : List Dispatch) → Each (λ e. e.shown.number < d.shown.number) l → InRow l → InRow (inserted d l)
place_row d [] older row = (tt, tt)
place_row d (e ∷ es) older row =
    elim (cases_lt d.release e.release) [
      | inl lt ↦
          let b : nat_lt d.release e.release ≡ true = grind (arith, nat_tests) in
          rw b ((inl lt, each_map (ComesBefore e) (ComesBefore d) es (λ f next. before_all d e f lt next) row.0), row)
      | inr le ↦
          let b : nat_lt d.release e.release ≡ false = grind (arith, nat_tests) in
          rw b (each_place (ComesBefore e) d es (behind (cases_lt e.release d.release) b) row.0, place_row d es older.1 row.1)
    ]
  where
    behind : (e.release < d.release) ⊎ (d.release ≤ e.release) → nat_lt d.release e.release ≡ false → ComesBefore e d
    behind (inl lt) b = inl lt
    behind (inr le) b = inr (grind (arith, nat_tests), older.0)

put_row : (p : Pub) (o : Option ℕ) (l : List Dispatch) → Each (λ e. e.shown.number < p.number) l → InRow l → InRow (put p o l)
put_row p None l older row = row
put_row p (Some r) l older row = place_row (dispatch p r) l older row

due_row : (s : Bytes) (ps : List Pub) → Falls ps → InRow (due_to s ps)
due_row s [] falls = tt
due_row s (p ∷ ps) falls =
    put_row p (release_to s p.due) (due_to s ps)
    (each_due_to (λ (q : Pub). q.number < p.number) (λ (e : Dispatch). e.shown.number < p.number) s ps (λ q r less is. less) falls.0)
    (due_row s ps falls.1)

filter_row : (t : Dispatch → Bool) (l : List Dispatch) → InRow l → InRow (filter t l)
filter_row t [] row = tt
filter_row t (d ∷ ds) row =
    elim (t d) as (λ b. InRow (cond b (d ∷ filter t ds) (filter t ds))) [
      | true ↦ (each_filter (ComesBefore d) t ds row.0, filter_row t ds row.1)
      | false ↦ filter_row t ds row.1
    ]

row_at : (l : List Dispatch) (i j : ℕ) (d e : Dispatch) → InRow l → i < j → slice_get l i ≡ Some d → slice_get l j ≡ Some e → ComesBefore d e
row_at [] i j d e row lt one two = absurd (none_some d one)
row_at (x ∷ xs) zero zero d e row lt one two = absurd (omega (arith, lt))
row_at (x ∷ xs) zero (suc j) d e row lt one two = subst (λ (y : Dispatch). ComesBefore y e) (some_is x d one) (each_get (ComesBefore x) xs j e row.0 two)
row_at (x ∷ xs) (suc i) zero d e row lt one two = absurd (omega (arith, lt))
row_at (x ∷ xs) (suc i) (suc j) d e row lt one two = row_at xs i j d e row.1 (omega (arith, lt)) one two

released : (m : ℕ) (d : Dispatch) → is_out m d ≡ true → d.release ≤ m
released m d out = grind (arith, nat_tests)

both : (P Q : Dispatch → Type 0) (l : List Dispatch) → Each P l → Each Q l → Each (λ d. P d × Q d) l
both P Q [] one two = tt
both P Q (d ∷ ds) one two = ((one.0, two.0), both P Q ds one.1 two.1)

pub feeds_in_order : FeedsInOrder
feeds_in_order h s = (
  λ i j d e lt one two. row_at (feed h s) i j d e (filter_row (is_out (moment h)) (due_to s (standing h)) (due_row s (standing h) (standing_falls h))) lt one two,
  both (λ (d : Dispatch). d.shown.release ≤ d.release) (λ (d : Dispatch). d.release ≤ moment h) (feed h s)
      (each_feed IsFair (λ (d : Dispatch). d.shown.release ≤ d.release) h s (λ p r fair is. release_from p.release s p.due r fair.from is) (standing_are_fair h))
      (each_passes (λ (d : Dispatch). d.release ≤ moment h) (is_out (moment h)) (due_to s (standing h)) (released (moment h))),
)

-- ---- a feed shows each publication once

abbrev Differ : Dispatch → Dispatch → Type 0
Differ d e = d.shown.number ≡ e.shown.number → ⊥

-- no two of a list show one publication
abbrev AllDiffer : List Dispatch → Type 0
AllDiffer [] = Unit {0}
AllDiffer (d ∷ ds) = Each (Differ d) ds × AllDiffer ds

place_differ : (d : Dispatch) (l : List Dispatch) → Each (λ e. e.shown.number < d.shown.number) l → AllDiffer l → AllDiffer (inserted d l)
place_differ d [] lower all = (tt, tt)
place_differ d (e ∷ es) lower all =
    elim (nat_lt d.release e.release) as (λ b. AllDiffer (cond b (d ∷ e ∷ es) (e ∷ inserted d es))) [
      | true ↦ (each_map (λ (f : Dispatch). f.shown.number < d.shown.number) (Differ d) (e ∷ es) (λ f less same. omega (arith, less, same)) lower, all)
      | false ↦ (each_place (Differ e) d es (λ same. let less = lower.0 in omega (arith, less, same)) all.0, place_differ d es lower.1 all.1)
    ]

put_differ : (p : Pub) (o : Option ℕ) (l : List Dispatch) → Each (λ e. e.shown.number < p.number) l → AllDiffer l → AllDiffer (put p o l)
put_differ p None l lower all = all
put_differ p (Some r) l lower all = place_differ (dispatch p r) l lower all

due_differ : (s : Bytes) (ps : List Pub) → Falls ps → AllDiffer (due_to s ps)
due_differ s [] falls = tt
due_differ s (p ∷ ps) falls =
    put_differ p (release_to s p.due) (due_to s ps)
    (each_due_to (λ (q : Pub). q.number < p.number) (λ (e : Dispatch). e.shown.number < p.number) s ps (λ q r less is. less) falls.0)
    (due_differ s ps falls.1)

filter_differ : (t : Dispatch → Bool) (l : List Dispatch) → AllDiffer l → AllDiffer (filter t l)
filter_differ t [] all = tt
filter_differ t (d ∷ ds) all =
    elim (t d) as (λ b. AllDiffer (cond b (d ∷ filter t ds) (filter t ds))) [
      | true ↦ (each_filter (Differ d) t ds all.0, filter_differ t ds all.1)
      | false ↦ filter_differ t ds all.1
    ]

differ_at : (l : List Dispatch) (i j : ℕ) (d e : Dispatch) → AllDiffer l → i < j → slice_get l i ≡ Some d → slice_get l j ≡ Some e → Differ d e
differ_at [] i j d e all lt one two = absurd (none_some d one)
differ_at (x ∷ xs) zero zero d e all lt one two = absurd (omega (arith, lt))
differ_at (x ∷ xs) zero (suc j) d e all lt one two = subst (λ (y : Dispatch). Differ y e) (some_is x d one) (each_get (Differ x) xs j e all.0 two)
differ_at (x ∷ xs) (suc i) zero d e all lt one two = absurd (omega (arith, lt))
differ_at (x ∷ xs) (suc i) (suc j) d e all lt one two = differ_at xs i j d e all.1 (omega (arith, lt)) one two

-- of two entries of a feed
pub feed_differs : (h : History) (s : Bytes) (i j : ℕ) (d e : Dispatch) → i < j → slice_get (feed h s) i ≡ Some d → slice_get (feed h s) j ≡ Some e → d.shown.number ≡ e.shown.number → ⊥
feed_differs h s i j d e lt one two same =
    differ_at (feed h s) i j d e (filter_differ (is_out (moment h)) (due_to s (standing h)) (due_differ s (standing h) (standing_falls h))) lt one two same
