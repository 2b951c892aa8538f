-- Publications that wait are withdrawn.
use Rattle.std.proofs.Common.{◌≡◌, ℕ, ◌<◌, ◌≤◌, Bool, true, false, cond, not, ◌&&◌, ◌||◌, ◌==◌, List, [], ◌∷◌, map, Option, Some, None, refl, sym, ap, ◌∙◌, arith, inl, inr}
use Rattle.std.specs.Prelude.{nat_le, nat_lt}
use Rattle.std.specs.List.{filter}
use Rattle.std.proofs.lemmas.Bool.{cases_lt}
use Rattle.std.proofs.lemmas.Bool.Decides.{nat_tests, Decides-eqb}
use Rattle.std.specs.Cmp.Lexicographic.{nat_list_eq_equiv}
use Rattle.news_types.specs.declared.query.Due.{Due}
use Rattle.news_types.specs.Names.{Bytes, same}
use Rattle.news_types.specs.Members.{Each}
use Rattle.news_types.specs.Due.{Pub, release_to, is_by, given_by, taken_back}
use Rattle.news_types.specs.Feeds.{Dispatch, inserted, dispatch, put, is_out, is_waiting, due_to, feed_of, waiting_of}
use Rattle.news_types.proofs.Members.{same_is, each_filter, each_map}
use Rattle.news_types.proofs.Feeds.{filter_place, rises_due_to}
use Rattle.news_types.proofs.Dues.{release_from, release_given}
use Rattle.publish_queue.specs.declared.feed.Feed.{Feed}
use Rattle.publish_queue.specs.declared.release.Release.{Release}
use Rattle.publish_queue.specs.Rows.{without, is_among, has_number}
use Rattle.publish_queue.specs.Steps.{FitsOneMore, IsWithdrawn}
use Rattle.publish_queue.specs.Many.{EachGoes, OneGoes}
use Rattle.publish_queue.proofs.Many.{one_each}
use Rattle.publish_queue.specs.Keeps.{Facts, IsRow, IsUntouched, IsFair, own, own_waiting, release_of}
use Rattle.publish_queue.specs.Withdrawn.{without_number, Waits, due_without, withdrawn_for, WaitsFor, left_of, AreOfItem}
use Rattle.publish_queue.proofs.OneFeed.{is_row_named, rises_own}

-- ---- filters

filter_swap : {A : Type 0} (t u : A → Bool) (l : List A) → filter t (filter u l) ≡ filter u (filter t l)
filter_swap t u [] = refl
filter_swap t u (p ∷ ps) = by (t p) (u p) refl refl (filter_swap t u ps)
  where
    by : (a b : Bool) → t p ≡ a → u p ≡ b → filter t (filter u ps) ≡ filter u (filter t ps) → filter t (cond b (p ∷ filter u ps) (filter u ps)) ≡ filter u (cond a (p ∷ filter t ps) (filter t ps))
    by true true e f rest = rw (e, f) (ap (λ z. p ∷ z) rest)
    by true false e f rest = rw f rest
    by false true e f rest = rw e rest
    by false false e f rest = rest

-- a filter that keeps what passes another test
filter_all : {A : Type 0} (t u : A → Bool) (l : List A) → ((x : A) → u x ≡ true → t x ≡ true) → filter t (filter u l) ≡ filter u l
filter_all t u [] passes = refl
filter_all t u (x ∷ xs) passes = by (u x) refl (filter_all t u xs passes)
  where
    by : (b : Bool) → u x ≡ b → filter t (filter u xs) ≡ filter u xs → filter t (cond b (x ∷ filter u xs) (filter u xs)) ≡ cond b (x ∷ filter u xs) (filter u xs)
    by true e rest = rw (passes x e) (ap (λ l. x ∷ l) rest)
    by false e rest = rest

-- tests that agree where another one passes
filter_agree : {A : Type 0} (t u v : A → Bool) (l : List A) → ((x : A) → v x ≡ true → t x ≡ u x) → filter t (filter v l) ≡ filter u (filter v l)
filter_agree t u v [] agree = refl
filter_agree t u v (x ∷ xs) agree = by (v x) refl (filter_agree t u v xs agree)
  where
    by : (b : Bool) → v x ≡ b → filter t (filter v xs) ≡ filter u (filter v xs) → filter t (cond b (x ∷ filter v xs) (filter v xs)) ≡ filter u (cond b (x ∷ filter v xs) (filter v xs))
    by true e rest = rw (agree x e) (elim (u x) as (λ c. cond c (x ∷ filter t (filter v xs)) (filter t (filter v xs)) ≡ cond c (x ∷ filter u (filter v xs)) (filter u (filter v xs))) [ true ↦ ap (λ l. x ∷ l) rest | false ↦ rest ])
    by false e rest = rest

-- ---- what is left

-- it does not wait, or it has none of these numbers
abbrev pub stays : ℕ → List ℕ → Dispatch → Bool
stays m numbers d = not (is_among d.shown.number numbers && is_waiting m d)

-- of the dispatches of the subscriber those are left that stay
abbrev pub Leaves : ℕ → List ℕ → Bytes → List Pub → List Pub → Type 0
Leaves m numbers s before after = due_to s after ≡ filter (stays m numbers) (due_to s before)

abbrev pub waits : ℕ → Option ℕ → Bool
waits m None = false
waits m (Some r) = nat_lt m r

-- the release that is left
abbrev pub left_option : ℕ → List ℕ → ℕ → Option ℕ → Option ℕ
left_option m numbers n o = cond (is_among n numbers && waits m o) None o

put_step : (m : ℕ) (numbers : List ℕ) (p : Pub) (o : Option ℕ) (s : Bytes) (ps : List Pub)
    → filter (stays m numbers) (put p o (due_to s ps)) ≡ put p (left_option m numbers p.number o) (filter (stays m numbers) (due_to s ps))
put_step m numbers p None s ps = by (is_among p.number numbers)
  where
    by : (b : Bool) → filter (stays m numbers) (due_to s ps) ≡ put p (cond (b && false) None None) (filter (stays m numbers) (due_to s ps))
    by true = refl
    by false = refl
put_step m numbers p (Some r) s ps = filter_place (stays m numbers) (dispatch p r) (due_to s ps) (rises_due_to s ps) ∙ by (is_among p.number numbers && nat_lt m r)
  where
    by : (b : Bool) → cond (not b) (inserted (dispatch p r) (filter (stays m numbers) (due_to s ps))) (filter (stays m numbers) (due_to s ps)) ≡ put p (cond b None (Some r)) (filter (stays m numbers) (due_to s ps))
    by true = refl
    by false = refl

out_stays : (m : ℕ) (numbers : List ℕ) (d : Dispatch) → is_out m d ≡ true → stays m numbers d ≡ true
out_stays m numbers d out = let early : nat_lt m d.release ≡ false = grind (arith, nat_tests) in rw early (by (is_among d.shown.number numbers))
  where
    by : (b : Bool) → not (b && false) ≡ true
    by true = refl
    by false = refl

waiting_stays : (m : ℕ) (numbers : List ℕ) (d : Dispatch) → is_waiting m d ≡ true → stays m numbers d ≡ not (is_among d.shown.number numbers)
waiting_stays m numbers d late = rw late (by (is_among d.shown.number numbers))
  where
    by : (b : Bool) → not (b && true) ≡ not b
    by true = refl
    by false = refl

-- no feed changes
pub feed_left : (m : ℕ) (numbers : List ℕ) (s : Bytes) (ps qs : List Pub) → Leaves m numbers s ps qs → feed_of qs m s ≡ feed_of ps m s
feed_left m numbers s ps qs leaves = ap (filter (is_out m)) leaves ∙ filter_swap (is_out m) (stays m numbers) (due_to s ps) ∙ filter_all (stays m numbers) (is_out m) (due_to s ps) (out_stays m numbers)

-- what waits is the rest
abbrev pub is_other : List ℕ → Dispatch → Bool
is_other numbers d = not (is_among d.shown.number numbers)

pub waiting_left : (m : ℕ) (numbers : List ℕ) (s : Bytes) (ps qs : List Pub) → Leaves m numbers s ps qs → waiting_of qs m s ≡ filter (is_other numbers) (waiting_of ps m s)
waiting_left m numbers s ps qs leaves =
    ap (filter (is_waiting m)) leaves ∙ filter_swap (is_waiting m) (stays m numbers) (due_to s ps) ∙ filter_agree (stays m numbers) (is_other numbers) (is_waiting m) (due_to s ps) (waiting_stays m numbers)

pub releases_left : (numbers : List ℕ) (l : List Dispatch) → without (has_number numbers) (map release_of l) ≡ map release_of (filter (is_other numbers) l)
releases_left numbers [] = refl
releases_left numbers (p ∷ ps) = by (is_other numbers p) (releases_left numbers ps)
  where
    by : (b : Bool) → without (has_number numbers) (map release_of ps) ≡ map release_of (filter (is_other numbers) ps)
        → cond b (release_of p ∷ without (has_number numbers) (map release_of ps)) (without (has_number numbers) (map release_of ps)) ≡ map release_of (cond b (p ∷ filter (is_other numbers) ps) (filter (is_other numbers) ps))
    by true rest = ap (λ rs. release_of p ∷ rs) rest
    by false rest = rest

pub is_row_withdrawn : (m : ℕ) (numbers : List ℕ) (ps qs : List Pub) (f g : Feed) → Leaves m numbers f.name ps qs → IsRow ps m f → IsWithdrawn (has_number numbers) f g → IsRow qs m g
is_row_withdrawn m numbers ps qs f g leaves is step =
    is_row_named qs m f g (feed_of ps m f.name) (filter (is_other numbers) (waiting_of ps m f.name)) step.delivery.name (feed_left m numbers f.name ps qs leaves) (waiting_left m numbers f.name ps qs leaves)
    (record { numbers = step.row.numbers ∙ is.row.numbers; releases = step.row.releases ∙ is.row.releases })
    (step.waiting ∙ ap (without (has_number numbers)) is.waiting ∙ releases_left numbers (waiting_of ps m f.name))

pub untouched_left : (known : Facts) (numbers : List ℕ) (qs : List Pub) (s : Bytes) → Leaves known.moment numbers s known.publications qs → IsUntouched known s → IsUntouched (record known { publications = qs }) s
untouched_left known numbers qs s leaves is = record {
  due = leaves ∙ ap (filter (stays known.moment numbers)) is.due;
  receipt = is.receipt;
  attempts = is.attempts;
  last = is.last;
}

-- ---- for everybody

or_false : (b : Bool) → (b || false) ≡ b
or_false true = refl
or_false false = refl

-- one that waits for everybody leaves nothing
none_left : (m n r : ℕ) (s : Bytes) (p : Pub) (o : Option ℕ) → IsFair p → m < p.release → (p.number == n) ≡ true → release_to s p.due ≡ o → left_option m (n ∷ []) p.number o ≡ None
none_left m n r s p None fair late e is = rw e refl
none_left m n r s p (Some x) fair late e is =
    let from : p.release ≤ x = release_from p.release s p.due x fair.from is in
    let b : nat_lt m x ≡ true = grind (arith, nat_tests) in
    rw (e, b) refl

all_left : (m n : ℕ) (k : ℕ) (o : Option ℕ) → (k == n) ≡ false → left_option m (n ∷ []) k o ≡ o
all_left m n k o e = rw e refl

pub without_leaves : (m n : ℕ) (s : Bytes) (ps : List Pub) → Each IsFair ps → Waits n m ps → Leaves m (n ∷ []) s ps (without_number n ps)
without_leaves m n s [] fair late = refl
without_leaves m n s (p ∷ ps) fair late = by (p.number == n) refl (without_leaves m n s ps fair.1 late.1) ∙ sym (put_step m (n ∷ []) p (release_to s p.due) s ps)
  where
    by : (b : Bool) → (p.number == n) ≡ b → due_to s (without_number n ps) ≡ filter (stays m (n ∷ [])) (due_to s ps)
        → due_to s (cond (not b) (p ∷ without_number n ps) (without_number n ps)) ≡ put p (left_option m (n ∷ []) p.number (release_to s p.due)) (filter (stays m (n ∷ [])) (due_to s ps))
    by true e rest = rest ∙ ap (λ o. put p o (filter (stays m (n ∷ [])) (due_to s ps))) (sym (none_left m n 0 s p (release_to s p.due) fair.0 (late.0 ((Decides-eqb p.number n).0 e)) e refl))
    by false e rest = ap (put p (release_to s p.due)) rest ∙ ap (λ o. put p o (filter (stays m (n ∷ [])) (due_to s ps))) (sym (all_left m n p.number (release_to s p.due) e))

own_without : (n : ℕ) (ps : List Pub) → own (without_number n ps) ≡ filter (is_other (n ∷ [])) (own ps)
own_without n [] = refl
own_without n (p ∷ ps) = by (p.number == n) refl (own_without n ps) ∙ sym (filter_place (is_other (n ∷ [])) (dispatch p p.release) (own ps) (rises_own ps))
  where
    by : (b : Bool) → (p.number == n) ≡ b → own (without_number n ps) ≡ filter (is_other (n ∷ [])) (own ps)
        → own (cond (not b) (p ∷ without_number n ps) (without_number n ps)) ≡ cond (is_other (n ∷ []) (dispatch p p.release)) (inserted (dispatch p p.release) (filter (is_other (n ∷ [])) (own ps))) (filter (is_other (n ∷ [])) (own ps))
    by true e rest = rw e rest
    by false e rest = rw e (ap (inserted (dispatch p p.release)) rest)

pub own_waiting_without : (m n : ℕ) (ps : List Pub) → own_waiting (without_number n ps) m ≡ filter (is_other (n ∷ [])) (own_waiting ps m)
own_waiting_without m n ps = ap (filter (is_waiting m)) (own_without n ps) ∙ filter_swap (is_waiting m) (is_other (n ∷ [])) (own ps)

-- ---- for some

-- the publications themselves stay
own_for_others : (s : Bytes) (n : ℕ) (ps : List Pub) → own (withdrawn_for s n ps) ≡ own ps
own_for_others s n [] = refl
own_for_others s n (p ∷ ps) = ap (inserted (dispatch p p.release)) (own_for_others s n ps)

pub own_waiting_for : (m n : ℕ) (s : Bytes) (ps : List Pub) → own_waiting (withdrawn_for s n ps) m ≡ own_waiting ps m
own_waiting_for m n s ps = ap (filter (is_waiting m)) (own_for_others s n ps)

-- ---- for one subscriber

out_of_due : (s t : Bytes) (due : List Due) → same s t ≡ true → release_to t (due_without s due) ≡ None
out_of_due s t [] e = refl
out_of_due s t (d ∷ ds) e = by (same s d.subscriber) refl (out_of_due s t ds e)
  where
    by : (b : Bool) → same s d.subscriber ≡ b → release_to t (due_without s ds) ≡ None → release_to t (cond (not b) (d ∷ due_without s ds) (due_without s ds)) ≡ None
    by true is rest = rest
    by false is rest = let other : same t d.subscriber ≡ false = ap (λ u. same u d.subscriber) (sym (same_is s t e)) ∙ is in rw other rest

others_due : (s t : Bytes) (due : List Due) → same s t ≡ false → release_to t (due_without s due) ≡ release_to t due
others_due s t [] e = refl
others_due s t (d ∷ ds) e = by (same s d.subscriber) refl (others_due s t ds e)
  where
    by : (b : Bool) → same s d.subscriber ≡ b → release_to t (due_without s ds) ≡ release_to t ds
        → release_to t (cond (not b) (d ∷ due_without s ds) (due_without s ds)) ≡ cond (same t d.subscriber) (Some d.release) (release_to t ds)
    by true is rest = let other : same t d.subscriber ≡ false = nat_list_eq_equiv.symm t d.subscriber ∙ ap (λ u. same u t) (sym (same_is s d.subscriber is)) ∙ e in rw other rest
    by false is rest = ap (cond (same t d.subscriber) (Some d.release)) rest

late_left : (m n : ℕ) (p : Pub) (o : Option ℕ) → (p.number == n) ≡ true → ((r : ℕ) → o ≡ Some r → m < r) → left_option m (n ∷ []) p.number o ≡ None
late_left m n p None e late = rw e refl
late_left m n p (Some r) e late = let lt : m < r = late r refl in let b : nat_lt m r ≡ true = grind (arith, nat_tests) in rw (e, b) refl

pub for_leaves : (m n : ℕ) (s t : Bytes) (ps : List Pub) → same s t ≡ true → WaitsFor s n m ps → Leaves m (n ∷ []) t ps (withdrawn_for s n ps)
for_leaves m n s t [] e late = refl
for_leaves m n s t (p ∷ ps) e late = by (p.number == n) refl (for_leaves m n s t ps e late.1) ∙ sym (put_step m (n ∷ []) p (release_to t p.due) t ps)
  where
    by : (b : Bool) → (p.number == n) ≡ b → due_to t (withdrawn_for s n ps) ≡ filter (stays m (n ∷ [])) (due_to t ps)
        → put p (release_to t (cond b (due_without s p.due) p.due)) (due_to t (withdrawn_for s n ps)) ≡ put p (left_option m (n ∷ []) p.number (release_to t p.due)) (filter (stays m (n ∷ [])) (due_to t ps))
    by true is rest =
        ap (λ o. put p o (due_to t (withdrawn_for s n ps))) (out_of_due s t p.due e ∙ sym (late_left m n p (release_to t p.due) is (λ r at. late.0 ((Decides-eqb p.number n).0 is) r (ap (λ u. release_to u p.due) (same_is s t e) ∙ at))))
        ∙ ap (put p (left_option m (n ∷ []) p.number (release_to t p.due))) rest
    by false is rest = ap (put p (release_to t p.due)) rest ∙ ap (λ o. put p o (filter (stays m (n ∷ [])) (due_to t ps))) (sym (all_left m n p.number (release_to t p.due) is))

pub for_others : (n : ℕ) (s t : Bytes) (ps : List Pub) → same s t ≡ false → due_to t (withdrawn_for s n ps) ≡ due_to t ps
for_others n s t [] e = refl
for_others n s t (p ∷ ps) e = ap (put p (release_to t (cond (p.number == n) (due_without s p.due) p.due))) (for_others n s t ps e) ∙ ap (λ o. put p o (due_to t ps)) (by (p.number == n))
  where
    by : (b : Bool) → release_to t (cond b (due_without s p.due) p.due) ≡ release_to t p.due
    by true = others_due s t p.due e
    by false = refl

pub untouched_for : (known : Facts) (n : ℕ) (s t : Bytes) → WaitsFor s n known.moment known.publications → IsUntouched known t → IsUntouched (record known { publications = withdrawn_for s n known.publications }) t
untouched_for known n s t late is = by (same s t) refl
  where
    by : (b : Bool) → same s t ≡ b → IsUntouched (record known { publications = withdrawn_for s n known.publications }) t
    by true e = untouched_left known (n ∷ []) (withdrawn_for s n known.publications) t (for_leaves known.moment n s t known.publications e late) is
    by false e = record { due = for_others n s t known.publications e ∙ is.due; receipt = is.receipt; attempts = is.attempts; last = is.last }

-- it has its name, its turn and its room
pub record HasStayed (f g : Feed) : Type 0 where
  pub name : g.name ≡ f.name
  pub turn : g.turn ≡ f.turn
  pub fits : FitsOneMore f → FitsOneMore g

pub stayed : (gone : Release → Bool) (s : Bytes) (olds news : List Feed) → OneGoes (IsWithdrawn gone) s olds news → EachGoes HasStayed olds news
stayed gone s olds news goes = one_each (IsWithdrawn gone) HasStayed s olds news goes (λ f g r. record { name = r.delivery.name; turn = r.turn; fits = r.fits }) (λ f. record { name = refl; turn = refl; fits = λ fits. fits })

-- ---- for those to whom they are not released yet

given_option : (m n : ℕ) (numbers : List ℕ) (b : Bool) (o : Option ℕ) → is_among n numbers ≡ true → cond (is_by m o) o None ≡ left_option m numbers n o
given_option m n numbers b None e = rw e refl
given_option m n numbers b (Some r) e = elim (cases_lt m r) [
  | inl late ↦
      let one : nat_le r m ≡ false = grind (arith, nat_tests) in
      let other : nat_lt m r ≡ true = grind (arith, nat_tests) in
      rw (e, one, other) refl
  | inr early ↦
      let one : nat_le r m ≡ true = grind (arith, nat_tests) in
      let other : nat_lt m r ≡ false = grind (arith, nat_tests) in
      rw (e, one, other) refl
]

left_leaves : (m : ℕ) (numbers : List ℕ) (s : Bytes) (ps : List Pub) → Each IsFair ps → Leaves m numbers s ps (map (left_of m numbers) ps)
left_leaves m numbers s [] fair = refl
left_leaves m numbers s (p ∷ ps) fair = by (is_among p.number numbers) refl (left_leaves m numbers s ps fair.1) ∙ sym (put_step m numbers p (release_to s p.due) s ps)
  where
    by : (b : Bool) → is_among p.number numbers ≡ b → due_to s (map (left_of m numbers) ps) ≡ filter (stays m numbers) (due_to s ps)
        → put p (release_to s (cond b (given_by m p.due) p.due)) (due_to s (map (left_of m numbers) ps)) ≡ put p (left_option m numbers p.number (release_to s p.due)) (filter (stays m numbers) (due_to s ps))
    by true e rest =
        ap (put p (release_to s (given_by m p.due))) rest
        ∙ ap (λ o. put p o (filter (stays m numbers) (due_to s ps))) (release_given fair.0.agree.0 m s p.due fair.0.agree.1 ∙ given_option m p.number numbers true (release_to s p.due) e)
    by false e rest = ap (put p (release_to s p.due)) rest ∙ ap (λ o. put p o (filter (stays m numbers) (due_to s ps))) (rw e refl)

taken_is : (m i : ℕ) (numbers : List ℕ) (ps : List Pub) → AreOfItem m i numbers ps → map (left_of m numbers) ps ≡ taken_back m i ps
taken_is m i numbers [] are = refl
taken_is m i numbers (p ∷ ps) are = rw (are.0, taken_is m i numbers ps are.1) refl

pub taken_leaves : (m i : ℕ) (numbers : List ℕ) (s : Bytes) (ps : List Pub) → Each IsFair ps → AreOfItem m i numbers ps → Leaves m numbers s ps (taken_back m i ps)
taken_leaves m i numbers s ps fair are = ap (due_to s) (sym (taken_is m i numbers ps are)) ∙ left_leaves m numbers s ps fair

pub own_waiting_taken : (m i : ℕ) (ps : List Pub) → own_waiting (taken_back m i ps) m ≡ own_waiting ps m
own_waiting_taken m i ps = ap (filter (is_waiting m)) (own_taken ps)
  where
    own_taken : (ps : List Pub) → own (taken_back m i ps) ≡ own ps
    own_taken [] = refl
    own_taken (p ∷ ps) = ap (inserted (dispatch p p.release)) (own_taken ps)

-- the numbers of the item are such numbers
pub are_of_item : (m i : ℕ) (numbers : List ℕ) (ps : List Pub) → Each (λ (p : Pub). is_among p.number numbers ≡ (p.item == i)) ps → AreOfItem m i numbers ps
are_of_item m i numbers ps all = each_map _ _ ps (λ p is. rw is refl) all

-- ---- they are fair

pub fair_without : (n : ℕ) (ps : List Pub) → Each IsFair ps → Each IsFair (without_number n ps)
fair_without n ps fair = each_filter IsFair _ ps fair

pub fair_for : (s : Bytes) (n : ℕ) (ps : List Pub) → Each IsFair ps → Each IsFair (withdrawn_for s n ps)
fair_for s n [] fair = tt
fair_for s n (p ∷ ps) fair = (record { agree = (fair.0.agree.0, by _ p.due fair.0.agree.1); from = by _ p.due fair.0.from }, fair_for s n ps fair.1)
  where
    by : (P : Due → Type 0) (due : List Due) → Each P due → Each P (cond (p.number == n) (due_without s due) due)
    by P due all = elim (p.number == n) as (λ b. Each P (cond b (due_without s due) due)) [ true ↦ each_filter P _ due all | false ↦ all ]

pub fair_taken : (m i : ℕ) (ps : List Pub) → Each IsFair ps → Each IsFair (taken_back m i ps)
fair_taken m i [] fair = tt
fair_taken m i (p ∷ ps) fair = (record { agree = (fair.0.agree.0, by _ p.due fair.0.agree.1); from = by _ p.due fair.0.from }, fair_taken m i ps fair.1)
  where
    by : (P : Due → Type 0) (due : List Due) → Each P due → Each P (cond (p.item == i) (given_by m due) due)
    by P due all = elim (p.item == i) as (λ b. Each P (cond b (given_by m due) due)) [ true ↦ each_filter P _ due all | false ↦ all ]
