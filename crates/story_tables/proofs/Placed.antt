-- Where a publication that stands is in a feed.
use Rattle.std.proofs.Common.{◌≡◌, ℕ, zero, suc, ◌+◌, ◌<◌, ◌≤◌, ◌==◌, ◌⊎◌, inl, inr, Bool, true, false, cond, List, [], ◌∷◌, slice_get, Option, Some, None, refl, sym, ap, ◌∙◌, arith}
use Rattle.std.specs.Prelude.{nat_le, nat_lt}
use Rattle.std.specs.List.{filter}
use Rattle.std.proofs.lemmas.Bool.{eqb-true}
use Rattle.std.proofs.lemmas.Bool.Decides.{nat_tests}
use Rattle.news_types.specs.Names.{Bytes}
use Rattle.news_types.specs.History.{History, moment}
use Rattle.news_types.specs.Members.{Each}
use Rattle.news_types.specs.Due.{Pub, release_to}
use Rattle.news_types.specs.Publications.{standing}
use Rattle.news_types.specs.Feeds.{Dispatch, dispatch, inserted, put, is_out, due_to, feed}
use Rattle.news_types.proofs.Members.{some_is, none_some, each_map, each_get, each_filter}
use Rattle.news_types.proofs.Numbering.{each_place, each_due_to, Falls, standing_falls}
use Rattle.feed_reasons.specs.Courses.{numbered, due_of, place_from, place}
use Rattle.publish_queue.specs.Found.{IsEntry, Finds, NewestFirst}

-- ---- what stands is newest first

newest : (ps : List Pub) → Falls ps → NewestFirst ps
newest [] falls = tt
newest (p ∷ ps) falls = (falls.0, newest ps falls.1)

pub stands_newest : (h : History) → NewestFirst (standing h)
stands_newest h = newest (standing h) (standing_falls h)

-- ---- a feed has each number once

abbrev Differ : Dispatch → Dispatch → Type 0
Differ d e = d.shown.number ≡ e.shown.number → ⊥

abbrev AllDiffer : List Dispatch → Type 0
AllDiffer [] = Unit {0}
AllDiffer (d ∷ ds) = Each (Differ d) ds × AllDiffer ds

place_differ : (d : Dispatch) (l : List Dispatch) → Each (λ e. e.shown.number < d.shown.number) l → AllDiffer l → AllDiffer (inserted d l)
place_differ d [] lower all = (tt, tt)
place_differ d (e ∷ es) lower all =
    elim (nat_lt d.release e.release) as (λ b. AllDiffer (cond b (d ∷ e ∷ es) (e ∷ inserted d es))) [
      | true ↦ (each_map (λ (f : Dispatch). f.shown.number < d.shown.number) (Differ d) (e ∷ es) (λ f less same. omega (arith, less, same)) lower, all)
      | false ↦ (each_place (Differ e) d es (λ same. let less = lower.0 in omega (arith, less, same)) all.0, place_differ d es lower.1 all.1)
    ]

put_differ : (p : Pub) (o : Option ℕ) (l : List Dispatch) → Each (λ e. e.shown.number < p.number) l → AllDiffer l → AllDiffer (put p o l)
put_differ p None l lower all = all
put_differ p (Some r) l lower all = place_differ (dispatch p r) l lower all

due_differ : (s : Bytes) (ps : List Pub) → Falls ps → AllDiffer (due_to s ps)
due_differ s [] falls = tt
due_differ s (p ∷ ps) falls =
    put_differ p (release_to s p.due) (due_to s ps)
    (each_due_to (λ (q : Pub). q.number < p.number) (λ (e : Dispatch). e.shown.number < p.number) s ps (λ q r less is. less) falls.0)
    (due_differ s ps falls.1)

filter_differ : (t : Dispatch → Bool) (l : List Dispatch) → AllDiffer l → AllDiffer (filter t l)
filter_differ t [] all = tt
filter_differ t (d ∷ ds) all =
    elim (t d) as (λ b. AllDiffer (cond b (d ∷ filter t ds) (filter t ds))) [
      | true ↦ (each_filter (Differ d) t ds all.0, filter_differ t ds all.1)
      | false ↦ filter_differ t ds all.1
    ]

feed_differs : (h : History) (s : Bytes) → AllDiffer (feed h s)
feed_differs h s = filter_differ (is_out (moment h)) (due_to s (standing h)) (due_differ s (standing h) (standing_falls h))

-- ---- so an entry of a number is the first of that number

placed_at : (n k : ℕ) (ds : List Dispatch) (i : ℕ) (d : Dispatch) → AllDiffer ds → slice_get ds i ≡ Some d → d.shown.number ≡ n → place_from n k ds ≡ i + k
placed_at n k [] i d all is number = absurd (none_some d is)
placed_at n k (e ∷ es) zero d all is number =
    let same : e.shown.number ≡ n = ap (λ (x : Dispatch). x.shown.number) (some_is e d is) ∙ number in
    let here : (e.shown.number == n) ≡ true = grind (arith, nat_tests, same) in
    ap (λ (b : Bool). cond b k (place_from n (k + 1) es)) here ∙ omega arith
placed_at n k (e ∷ es) (suc i) d all is number = by (e.shown.number == n) refl (placed_at n (k + 1) es i d all.1 is number)
  where
    by : (b : Bool) → (e.shown.number == n) ≡ b → place_from n (k + 1) es ≡ i + (k + 1) → cond b k (place_from n (k + 1) es) ≡ suc i + k
    by true same rest = absurd (each_get (Differ e) es i d all.0 is (eqb-true e.shown.number n same ∙ sym number))
    by false other rest = rest ∙ omega arith

entry_placed : (h : History) (s : Bytes) (n release k : ℕ) → IsEntry n release (feed h s) k → k ≡ place h s n
entry_placed h s n release zero is = absurd (none_some is.dispatch is.there)
entry_placed h s n release (suc i) is = let at = placed_at n 1 (feed h s) i is.dispatch (feed_differs h s) is.there is.is_number in omega (arith, at)

-- ---- what stands and is released is there

module _ (n r : ℕ) where
  -- it shows the publication, with that release
  record IsIt (d : Dispatch) : Type 0 where
    number : d.shown.number ≡ n
    release : d.release ≡ r

  abbrev IsIn : List Dispatch → Type 0
  IsIn [] = ⊥
  IsIn (d ∷ ds) = IsIt d ⊎ IsIn ds

  in_new : (d : Dispatch) (ds : List Dispatch) → IsIt d → IsIn (inserted d ds)
  in_new d [] it = inl it
  in_new d (e ∷ es) it =
      elim (nat_lt d.release e.release) as (λ b. IsIn (cond b (d ∷ e ∷ es) (e ∷ inserted d es))) [
        | true ↦ inl it
        | false ↦ inr (in_new d es it)
      ]

  in_old : (d : Dispatch) (ds : List Dispatch) → IsIn ds → IsIn (inserted d ds)
  in_old d [] there = absurd there
  in_old d (e ∷ es) there =
      elim (nat_lt d.release e.release) as (λ b. IsIn (cond b (d ∷ e ∷ es) (e ∷ inserted d es))) [
        | true ↦ inr there
        | false ↦ behind there (in_old d es)
      ]
    where
      behind : IsIt e ⊎ IsIn es → (IsIn es → IsIn (inserted d es)) → IsIt e ⊎ IsIn (inserted d es)
      behind (inl it) later = inl it
      behind (inr rest) later = inr (later rest)

  in_filter : (t : Dispatch → Bool) (ds : List Dispatch) → ((d : Dispatch) → IsIt d → t d ≡ true) → IsIn ds → IsIn (filter t ds)
  in_filter t [] passes there = there
  in_filter t (d ∷ ds) passes (inl it) = rw (passes d it) (inl it)
  in_filter t (d ∷ ds) passes (inr rest) =
      elim (t d) as (λ b. IsIn (cond b (d ∷ filter t ds) (filter t ds))) [
        | true ↦ inr (in_filter t ds passes rest)
        | false ↦ in_filter t ds passes rest
      ]

  in_due : (s : Bytes) (ps : List Pub) → due_of s (numbered n ps) ≡ Some r → IsIn (due_to s ps)
  in_due s [] is = absurd (none_some r is)
  in_due s (p ∷ ps) is = by (p.number == n) refl is (in_due s ps)
    where
      here : p.number ≡ n → (o : Option ℕ) → o ≡ Some r → IsIn (put p o (due_to s ps))
      here number None found = absurd (none_some r found)
      here number (Some time) found = in_new (dispatch p time) (due_to s ps) (record { number = number; release = some_is time r found })

      there : (o : Option ℕ) → IsIn (due_to s ps) → IsIn (put p o (due_to s ps))
      there None rest = rest
      there (Some time) rest = in_old (dispatch p time) (due_to s ps) rest

      by : (b : Bool) → (p.number == n) ≡ b → due_of s (cond b (Some p) (numbered n ps)) ≡ Some r → (due_of s (numbered n ps) ≡ Some r → IsIn (due_to s ps)) → IsIn (put p (release_to s p.due) (due_to s ps))
      by true number found later = here (eqb-true p.number n number) (release_to s p.due) found
      by false number found later = there (release_to s p.due) (later found)

  in_feed : (h : History) (s : Bytes) → due_of s (numbered n (standing h)) ≡ Some r → r ≤ moment h → IsIn (feed h s)
  in_feed h s is le = in_filter (is_out (moment h)) (due_to s (standing h)) out (in_due s (standing h) is)
    where
      out : (d : Dispatch) → IsIt d → nat_le d.release (moment h) ≡ true
      out d it = let time = it.release in let by : d.release ≤ moment h = omega (arith, time, le) in grind (arith, nat_tests, by)

  in_entry : (ds : List Dispatch) → IsIn ds → (i : ℕ) × IsEntry n r ds (suc i)
  in_entry [] there = absurd there
  in_entry (d ∷ ds) (inl it) = (0, record { dispatch = d; there = refl; is_number = it.number; is_release = it.release })
  in_entry (d ∷ ds) (inr rest) =
      let found = in_entry ds rest in
      (suc found.0, record { dispatch = found.1.dispatch; there = found.1.there; is_number = found.1.is_number; is_release = found.1.is_release })

-- what is found of a publication that stands for the subscriber, and is released to it, is its place
pub stands_found : (h : History) (s : Bytes) (n release : ℕ) (o : Option ℕ) → Finds n release (feed h s) o → due_of s (numbered n (standing h)) ≡ Some release → release ≤ moment h → o ≡ Some (place h s n)
stands_found h s n release (Some k) found is le = ap Some (entry_placed h s n release k found)
stands_found h s n release None none is le = let there = in_entry n release (feed h s) (in_feed n release h s is le) in absurd (none (suc there.0) there.1)
