-- What stands, said of the whole list.
use Rattle.std.proofs.Common.{◌≡◌, ◌==◌, ℕ, ◌+◌, ◌<◌, ◌≤◌, max, Bool, true, false, cond, not, ◌&&◌, ◌||◌, Option, Some, None, List, [], ◌∷◌, ◌++◌, map, length, refl, sym, ap, ◌∙◌, arith, inl, inr}
use Rattle.std.specs.Prelude.{nat_lt, nat_le, is_some}
use Rattle.std.specs.List.{filter}
use mathlib.Core.Bool.{true≢false}
use Rattle.std.proofs.lemmas.Bool.{cases_lt}
use Rattle.std.proofs.lemmas.Bool.Decides.{nat_tests}
use Rattle.news_types.specs.declared.entry.Act.{Act}
use Rattle.news_types.specs.declared.entry.Act.TheVariants.{Ingest, Request}
use Rattle.news_types.specs.declared.command.Command.{Command}
use Rattle.news_types.specs.declared.command.Command.TheVariants.{Flash, Publish, Correct, Kill, Recall, Deschedule}
use Rattle.news_types.specs.declared.words.Kind.TheVariants as kind
use Rattle.news_types.specs.declared.query.Due.{Due}
use Rattle.news_types.specs.declared.story.Incoming.{Incoming}
use Rattle.news_types.specs.Names.{Bytes}
use Rattle.news_types.specs.History.{History}
use Rattle.news_types.specs.Due.{Pub, takes_back, is_first_of, withdrawn, given_by, left_behind, taken_back}
use Rattle.news_types.specs.Items.{Item, Effect, NewAt, item_after, effect_by, made_by, routed_item}
use Rattle.news_types.specs.Publications.{Issue, made, item, pubs, standing, issued_by, issued_by_command, issued_by_effect, release_at, first_issue, later_issue, pub_of, pubs_of_item, pubs_of_issue, kept_by}
use Rattle.news_types.specs.Denial.{first_missing, missing}
use Rattle.news_types.specs.Legal.{Follows}
use Rattle.news_types.specs.Members.{Each}
use Rattle.news_types.specs.FeedLaws.{is_taken_back, for_whom_it_stands, published, without_descheduled, not_descheduled, StandsAsSaid}
use Rattle.news_types.proofs.Members.{each_map, each_append, each_filter}
use Rattle.news_types.proofs.Legal.{missing_row, item_there, still_there}
use Rattle.news_types.proofs.Bounds.{pubs_grow}
use Rattle.news_types.proofs.Numbering.{NumberTo, pub_numbers}

-- ---- numbers

each_front : (P : Pub → Type 0) (xs ys : List Pub) → Each P (xs ++ ys) → Each P xs
each_front P [] ys all = tt
each_front P (x ∷ xs) ys all = (all.0, each_front P xs ys all.1)

undescheduled : (P : Pub → Type 0) (act : Act) (ps : List Pub) → Each P ps → Each P (without_descheduled act ps)
undescheduled P (Request caller number (Deschedule i)) ps all = each_filter P _ ps all
undescheduled P (Request caller number command) ps all = all
undescheduled P _ ps all = all

-- no number is above that of all
old_numbers : (h : History) → Each (λ (p : Pub). p.number ≤ length (pubs h)) (not_descheduled h)
old_numbers [] = tt
old_numbers (e ∷ h) =
    let grown = (pubs_grow e h).0 in
    each_append (λ (p : Pub). p.number ≤ length (pubs (e ∷ h))) (published e h) (without_descheduled e.act (not_descheduled h))
    (each_map (NumberTo (length (pubs (e ∷ h)))) (λ (p : Pub). p.number ≤ length (pubs (e ∷ h))) (published e h) (λ p to. to.1)
    (each_front (NumberTo (length (pubs (e ∷ h)))) (published e h) (pubs h) (pub_numbers (e ∷ h))))
    (each_map (λ (p : Pub). p.number ≤ length (pubs h)) (λ (p : Pub). p.number ≤ length (pubs (e ∷ h))) (without_descheduled e.act (not_descheduled h)) (λ p le. omega (arith, le, grown))
    (undescheduled (λ (p : Pub). p.number ≤ length (pubs h)) e.act (not_descheduled h) (old_numbers h)))

-- ---- filters

filter_all : (t : Due → Bool) (due : List Due) → ((d : Due) → t d ≡ true) → filter t due ≡ due
filter_all t [] all = refl
filter_all t (d ∷ due) all = rw (all d) (ap (λ l. d ∷ l) (filter_all t due all))

filter_same : (t u : Due → Bool) (due : List Due) → ((d : Due) → t d ≡ u d) → filter t due ≡ filter u due
filter_same t u [] alike = refl
filter_same t u (d ∷ due) alike = rw (alike d) (ap (λ l. cond (u d) (d ∷ l) l) (filter_same t u due alike))

-- one test behind another
filter_two : (t u v : Due → Bool) (due : List Due) → ((d : Due) → v d ≡ (t d && u d)) → filter t (filter u due) ≡ filter v due
filter_two t u v [] alike = refl
filter_two t u v (d ∷ due) alike = rw (alike d) (by (u d) (t d) refl (filter_two t u v due alike))
  where
    by : (b c : Bool) → t d ≡ c → filter t (filter u due) ≡ filter v due → filter t (cond b (d ∷ filter u due) (filter u due)) ≡ cond (c && b) (d ∷ filter v due) (filter v due)
    by false true is rest = rest
    by false false is rest = rest
    by true true is rest = rw is (ap (λ l. d ∷ l) rest)
    by true false is rest = rw is rest

-- ---- the newest publication is taken back by none

and_not : (a : Bool) → (a && false) ≡ false
and_not true = refl
and_not false = refl

none_newer : (all : List Pub) (p : Pub) (r : ℕ) → Each (λ (q : Pub). q.number ≤ p.number) all → is_taken_back all p r ≡ false
none_newer [] p r old = refl
none_newer (q ∷ all) p r old =
    let b : nat_lt p.number q.number ≡ false = grind (arith, nat_tests, old.0) in
    rw (b, and_not (takes_back q.kind && p.item == q.item)) (none_newer all p r old.1)

newest_stands : (all : List Pub) (p : Pub) → Each (λ (q : Pub). q.number ≤ p.number) all → for_whom_it_stands all p ≡ p
newest_stands all p old = ap (λ (l : List Due). record p { due = l }) (filter_all (λ (d : Due). not (is_taken_back all p d.release)) p.due (λ d. ap not (none_newer all p d.release old)))

-- ---- what a kill leaves

either : (m r : ℕ) (b : Bool) → not (nat_lt m r || b) ≡ (nat_le r m && not b)
either m r b = elim (cases_lt m r) [
  | inl lt ↦ let x : nat_lt m r ≡ true = grind (arith, nat_tests) in let y : nat_le r m ≡ false = grind (arith, nat_tests) in rw (x, y) refl
  | inr le ↦ let x : nat_lt m r ≡ false = grind (arith, nat_tests) in let y : nat_le r m ≡ true = grind (arith, nat_tests) in rw (x, y) refl
]

left_stands : (m i : ℕ) (q : Pub) (all : List Pub) (p : Pub) → q.item ≡ i → q.release ≡ m → takes_back q.kind ≡ true → p.number < q.number
    → left_behind m i (for_whom_it_stands all p) ≡ for_whom_it_stands (q ∷ all) p
left_stands m i q all p item release back less = ap (λ (l : List Due). record p { due = l }) (by (p.item == i) refl)
  where
    newer : nat_lt p.number q.number ≡ true
    newer = grind (arith, nat_tests, less)

    taken : (b : Bool) (d : Due) → (p.item == i) ≡ b → is_taken_back (q ∷ all) p d.release ≡ ((b && nat_lt m d.release) || is_taken_back all p d.release)
    taken b d is =
        let here : (p.item == q.item) ≡ b = ap (λ (j : ℕ). p.item == j) item ∙ is in
        let late : nat_lt q.release d.release ≡ nat_lt m d.release = ap (λ (r : ℕ). nat_lt r d.release) release in
        rw (back, here, newer, late) (ap (λ (c : Bool). (c && nat_lt m d.release) || is_taken_back all p d.release) (with_true b))
      where
        with_true : (b : Bool) → (b && true) ≡ b
        with_true true = refl
        with_true false = refl

    by : (b : Bool) → (p.item == i) ≡ b
        → cond b (given_by m (filter (λ (d : Due). not (is_taken_back all p d.release)) p.due)) (filter (λ (d : Due). not (is_taken_back all p d.release)) p.due)
        ≡ filter (λ (d : Due). not (is_taken_back (q ∷ all) p d.release)) p.due
    by true is =
        filter_two (λ (d : Due). nat_le d.release m) (λ (d : Due). not (is_taken_back all p d.release)) (λ (d : Due). not (is_taken_back (q ∷ all) p d.release)) p.due
        (λ d. ap not (taken true d is) ∙ either m d.release (is_taken_back all p d.release))
    by false is = filter_same (λ (d : Due). not (is_taken_back all p d.release)) (λ (d : Due). not (is_taken_back (q ∷ all) p d.release)) p.due (λ d. sym (ap not (taken false d is)))

all_left : (m i : ℕ) (q : Pub) (all : List Pub) (ps : List Pub) → q.item ≡ i → q.release ≡ m → takes_back q.kind ≡ true → Each (λ (p : Pub). p.number < q.number) ps
    → taken_back m i (map (for_whom_it_stands all) ps) ≡ map (for_whom_it_stands (q ∷ all)) ps
all_left m i q all [] item release back lower = refl
all_left m i q all (p ∷ ps) item release back lower =
    ap (λ (x : Pub). x ∷ taken_back m i (map (for_whom_it_stands all) ps)) (left_stands m i q all p item release back lower.0)
    ∙ ap (λ l. for_whom_it_stands (q ∷ all) p ∷ l) (all_left m i q all ps item release back lower.1)

-- ---- what another publication leaves

other_stands : (q : Pub) (all : List Pub) (p : Pub) → takes_back q.kind ≡ false → for_whom_it_stands all p ≡ for_whom_it_stands (q ∷ all) p
other_stands q all p other =
    ap (λ (l : List Due). record p { due = l })
    (filter_same (λ (d : Due). not (is_taken_back all p d.release)) (λ (d : Due). not (is_taken_back (q ∷ all) p d.release)) p.due (λ d. rw other refl))

all_others : (q : Pub) (all : List Pub) (ps : List Pub) → takes_back q.kind ≡ false → map (for_whom_it_stands all) ps ≡ map (for_whom_it_stands (q ∷ all)) ps
all_others q all [] other = refl
all_others q all (p ∷ ps) other =
    ap (λ (x : Pub). x ∷ map (for_whom_it_stands all) ps) (other_stands q all p other) ∙ ap (λ l. for_whom_it_stands (q ∷ all) p ∷ l) (all_others q all ps other)

withdrawn_stands : (i : ℕ) (all : List Pub) (ps : List Pub) → withdrawn i (map (for_whom_it_stands all) ps) ≡ map (for_whom_it_stands all) (withdrawn i ps)
withdrawn_stands i all [] = refl
withdrawn_stands i all (p ∷ ps) =
    ap (λ l. cond (not (is_first_of i p)) (for_whom_it_stands all p ∷ l) l) (withdrawn_stands i all ps)
    ∙ elim (not (is_first_of i p)) as (λ b. cond b (for_whom_it_stands all p ∷ map (for_whom_it_stands all) (withdrawn i ps)) (map (for_whom_it_stands all) (withdrawn i ps)) ≡ map (for_whom_it_stands all) (cond b (p ∷ withdrawn i ps) (withdrawn i ps))) [
      | true ↦ refl
      | false ↦ refl
    ]

-- ---- an entry

module _ (h : History) (m : ℕ) (before : standing h ≡ map (for_whom_it_stands (pubs h)) (not_descheduled h)) where
  abbrev Said : List Pub → List Pub → List Pub → Type 0
  Said new kept old = new ++ kept ≡ map (for_whom_it_stands (new ++ pubs h)) (new ++ old)

  older : (issue : Issue) (it : Item) → Each (λ (q : Pub). q.number ≤ (pub_of h (made h) issue it).number) (pub_of h (made h) issue it ∷ pubs h)
  older issue it = (omega arith, each_map (NumberTo (length (pubs h))) (λ (q : Pub). q.number ≤ length (pubs h) + 1) (pubs h) (λ q to. omega (arith, to.1)) (pub_numbers h))

  lower : (issue : Issue) (it : Item) → Each (λ (q : Pub). q.number < (pub_of h (made h) issue it).number) (not_descheduled h)
  lower issue it = each_map (λ (q : Pub). q.number ≤ length (pubs h)) (λ (q : Pub). q.number < length (pubs h) + 1) (not_descheduled h) (λ q le. omega (arith, le)) (old_numbers h)

  other_step : (issue : Issue) (o : Option Item) → takes_back issue.kind ≡ false → Said (pubs_of_item h (made h) issue o) (standing h) (not_descheduled h)
  other_step issue None other = before
  other_step issue (Some it) other =
      let q : Pub = pub_of h (made h) issue it in
      ap (λ l. q ∷ l) (before ∙ all_others q (pubs h) (not_descheduled h) other)
      ∙ ap (λ (x : Pub). x ∷ map (for_whom_it_stands (q ∷ pubs h)) (not_descheduled h)) (sym (newest_stands (q ∷ pubs h) q (older issue it)))

  taken_step : (issue : Issue) (o : Option Item) → is_some o ≡ true → issue.release ≡ m → takes_back issue.kind ≡ true → Said (pubs_of_item h (made h) issue o) (taken_back m issue.item (standing h)) (not_descheduled h)
  taken_step issue None there release back = absurd (true≢false (sym there))
  taken_step issue (Some it) there release back =
      let q : Pub = pub_of h (made h) issue it in
      ap (λ l. q ∷ l) (ap (taken_back m issue.item) before ∙ all_left m issue.item q (pubs h) (not_descheduled h) refl release back (lower issue it))
      ∙ ap (λ (x : Pub). x ∷ map (for_whom_it_stands (q ∷ pubs h)) (not_descheduled h)) (sym (newest_stands (q ∷ pubs h) q (older issue it)))

  command_step : (caller : Bytes) (number : ℕ) (command : Command) → first_missing (missing h command) ≡ None
      → Said (pubs_of_issue h (made h) (issued_by_command (made h) m caller command)) (kept_by m (Request caller number command) (standing h)) (without_descheduled (Request caller number command) (not_descheduled h))
  command_step caller number (Flash story targets) none =
      let o : Option Item = made_by (Flash story targets) in other_step (first_issue (length (made h).items + 1) o m targets) o refl
  command_step caller number (Publish i session schedule embargo targets) none =
      let o : Option Item = item_after (made h) m caller (Publish i session schedule embargo targets) in other_step (first_issue i o (release_at m schedule embargo) targets) o refl
  command_step caller number (Correct i session story) none =
      let o : Option Item = item_after (made h) m caller (Correct i session story) in other_step (later_issue kind.Correct (made h) i o m None) o refl
  command_step caller number (Kill i session note) none =
      let o : Option Item = item_after (made h) m caller (Kill i session note) in
      taken_step (later_issue kind.Kill (made h) i o m (Some note)) o (still_there _ (item h i) (item_there (item h i) none)) refl refl
  command_step caller number (Recall i session note) none =
      let o : Option Item = item_after (made h) m caller (Recall i session note) in
      taken_step (later_issue kind.Recall (made h) i o m (Some note)) o (still_there _ (item h i) (item_there (item h i) none)) refl refl
  command_step caller number (Deschedule i) none = ap (withdrawn i) before ∙ withdrawn_stands i (pubs h) (not_descheduled h)
  command_step caller number _ none = before

  effect_step : (name : Bytes) (come : Incoming) (effect : Effect) → Said (pubs_of_issue h (made h) (issued_by_effect (made h) m name come effect)) (standing h) (not_descheduled h)
  effect_step name come (NewAt place true) =
      let o : Option Item = Some (routed_item name come place true) in other_step (first_issue (length (made h).items + 1) o (max m come.embargo) []) o refl
  effect_step name come _ = before

  said_step : (act : Act) → Follows h act m → Said (pubs_of_issue h (made h) (issued_by h (made h) m act)) (kept_by m act (standing h)) (without_descheduled act (not_descheduled h))
  said_step (Request caller number command) follows = command_step caller number command (missing_row h caller number command m follows.1)
  said_step (Ingest name come) follows = effect_step name come (effect_by h (made h) name come m)
  said_step _ follows = before

pub stands_as_said : StandsAsSaid
stands_as_said [] legal = refl
stands_as_said (e ∷ h) legal = said_step h e.moment (stands_as_said h legal.0) e.act legal.2
