-- An entry is found by its release and number.
use Rattle.std.proofs.Common.{◌≡◌, ℕ, zero, suc, ◌+◌, ◌-◌, ◌<◌, ◌≤◌, ◌⊎◌, inl, inr, Bool, true, false, cond, List, [], ◌∷◌, length, get_or, take, drop, map, slice_get, Option, Some, None, Result, Ok, Err, MatchOption, refl, sym, ap, subst, ◌∙◌, arith, length-drop}
use Rattle.std.specs.Prelude.{nat_le, nat_lt}
use Rattle.std.specs.Ordering.{nat_cmp}
use Rattle.std.specs.Result.{result_ok}
use Rattle.std.specs.List.{filter}
use Rattle.std.specs.List.Sorted.{IsNonDecreasingBy, IsBinarySearchResult, IsPartitionPoint}
use Rattle.std.proofs.lemmas.Bool.{cases_lt}
use Rattle.std.proofs.lemmas.Bool.Decides.{nat_tests}
use Rattle.std.proofs.lemmas.List.{length-map, length-take-le, get_or-take, get_or-drop}
use Rattle.std.proofs.lemmas.List.Sorted.{searched, IsNonDecreasingBy-from_default}
use Rattle.news_types.specs.Names.{Bytes}
use Rattle.news_types.specs.Members.{Each}
use Rattle.news_types.specs.Due.{Pub, release_to}
use Rattle.news_types.specs.Feeds.{Dispatch, dispatch, inserted, put, is_out, due_to, feed_of}
use Rattle.news_types.proofs.Members.{some_is, none_some, each_map, each_filter}
use Rattle.news_types.proofs.Numbering.{each_place, each_due_to}
use Rattle.publish_queue.specs.Keeps.{number_of, moment_of}
use Rattle.publish_queue.specs.Found.{IsEntry, Finds, NewestFirst, ComesBefore, AreInRow}

-- ---- what publications make is in order

before_all : (d e f : Dispatch) → d.release < e.release → ComesBefore e f → ComesBefore d f
before_all d e f less next = elim next [ inl lt ↦ inl (omega (arith, less, lt)) | inr eq ↦ inl (omega (arith, less, eq.0)) ]

place_row : (d : Dispatch) (l : List Dispatch) → Each (λ e. e.shown.number < d.shown.number) l → AreInRow l → AreInRow (inserted d l)
place_row d [] older row = (tt, tt)
place_row d (e ∷ es) older row =
    elim (cases_lt d.release e.release) [
      | inl lt ↦
          let b : nat_lt d.release e.release ≡ true = grind (arith, nat_tests) in
          rw b ((inl lt, each_map (ComesBefore e) (ComesBefore d) es (λ f next. before_all d e f lt next) row.0), row)
      | inr le ↦
          let b : nat_lt d.release e.release ≡ false = grind (arith, nat_tests) in
          rw b (each_place (ComesBefore e) d es (behind (cases_lt e.release d.release) b) row.0, place_row d es older.1 row.1)
    ]
  where
    behind : (e.release < d.release) ⊎ (d.release ≤ e.release) → nat_lt d.release e.release ≡ false → ComesBefore e d
    behind (inl lt) b = inl lt
    behind (inr le) b = inr (grind (arith, nat_tests), older.0)

put_row : (p : Pub) (o : Option ℕ) (l : List Dispatch) → Each (λ e. e.shown.number < p.number) l → AreInRow l → AreInRow (put p o l)
put_row p None l older row = row
put_row p (Some r) l older row = place_row (dispatch p r) l older row

due_row : (s : Bytes) (ps : List Pub) → NewestFirst ps → AreInRow (due_to s ps)
due_row s [] falls = tt
due_row s (p ∷ ps) falls =
    put_row p (release_to s p.due) (due_to s ps)
    (each_due_to (λ (q : Pub). q.number < p.number) (λ (e : Dispatch). e.shown.number < p.number) s ps (λ q r less is. less) falls.0)
    (due_row s ps falls.1)

filter_row : (t : Dispatch → Bool) (l : List Dispatch) → AreInRow l → AreInRow (filter t l)
filter_row t [] row = tt
filter_row t (d ∷ ds) row =
    elim (t d) as (λ b. AreInRow (cond b (d ∷ filter t ds) (filter t ds))) [
      | true ↦ (each_filter (ComesBefore d) t ds row.0, filter_row t ds row.1)
      | false ↦ filter_row t ds row.1
    ]

pub feed_row : (ps : List Pub) (m : ℕ) (s : Bytes) → NewestFirst ps → AreInRow (feed_of ps m s)
feed_row ps m s falls = filter_row (is_out m) (due_to s ps) (due_row s ps falls)

-- none is found in an empty feed
pub none_in_empty : (number release : ℕ) → Finds number release [] None
none_in_empty number release zero is = absurd (none_some is.dispatch is.there)
none_in_empty number release (suc k) is = absurd (none_some is.dispatch is.there)

-- ---- entries as they are read

record Reads (number release : ℕ) (ds : List Dispatch) (i : ℕ) : Type 0 where
  within : i < length ds
  is_number : get_or (map number_of ds) i 0 ≡ number
  is_release : get_or (map moment_of ds) i 0 ≡ release

read_there : (ds : List Dispatch) (i : ℕ) (d : Dispatch) → slice_get ds i ≡ Some d → Reads d.shown.number d.release ds i
read_there [] i d is = absurd (none_some d is)
read_there (e ∷ es) zero d is =
    let same = some_is e d is in
    record { within = omega arith; is_number = ap number_of same; is_release = ap moment_of same }
read_there (e ∷ es) (suc i) d is =
    let rest = read_there es i d is in
    record { within = omega (arith, rest.within); is_number = rest.is_number; is_release = rest.is_release }

there_at : (ds : List Dispatch) (i : ℕ) → i < length ds → (d : Dispatch) × (slice_get ds i ≡ Some d)
there_at [] i lt = absurd (omega (arith, lt))
there_at (e ∷ es) zero lt = (e, refl)
there_at (e ∷ es) (suc i) lt = there_at es i (omega (arith, lt))

entry_reads : (number release : ℕ) (ds : List Dispatch) (k : ℕ) → IsEntry number release ds k → (i : ℕ) × Reads number release ds i
entry_reads number release ds zero is = absurd (none_some is.dispatch is.there)
entry_reads number release ds (suc i) is =
    let reads = read_there ds i is.dispatch is.there in
    (i, record { within = reads.within; is_number = reads.is_number ∙ is.is_number; is_release = reads.is_release ∙ is.is_release })

reads_entry : (number release : ℕ) (ds : List Dispatch) (i : ℕ) → Reads number release ds i → IsEntry number release ds (i + 1)
reads_entry number release ds i is =
    let found = there_at ds i is.within in
    let reads = read_there ds i found.0 found.1 in
    let counted : i + 1 ≡ suc i = omega arith in
    rw counted (record { dispatch = found.0; there = found.1; is_number = sym reads.is_number ∙ is.is_number; is_release = sym reads.is_release ∙ is.is_release })

-- one release and number, and another behind them
abbrev Before : ℕ → ℕ → ℕ → ℕ → Type 0
Before r n q m = (r < q) ⊎ ((r ≡ q) × (n < m))

before_each : (d : Dispatch) (ds : List Dispatch) (j : ℕ) → Each (ComesBefore d) ds → j < length ds → Before d.release d.shown.number (get_or (map moment_of ds) j 0) (get_or (map number_of ds) j 0)
before_each d [] j all lt = absurd (omega (arith, lt))
before_each d (e ∷ es) zero all lt = all.0
before_each d (e ∷ es) (suc j) all lt = before_each d es j all.1 (omega (arith, lt))

before_at : (ds : List Dispatch) (i j : ℕ) → AreInRow ds → i < j → j < length ds
    → Before (get_or (map moment_of ds) i 0) (get_or (map number_of ds) i 0) (get_or (map moment_of ds) j 0) (get_or (map number_of ds) j 0)
before_at [] i j row less lt = absurd (omega (arith, lt))
before_at (d ∷ ds) zero zero row less lt = absurd (omega (arith, less))
before_at (d ∷ ds) zero (suc j) row less lt = before_each d ds j row.0 (omega (arith, lt))
before_at (d ∷ ds) (suc i) zero row less lt = absurd (omega (arith, less))
before_at (d ∷ ds) (suc i) (suc j) row less lt = before_at ds i j row.1 (omega (arith, less)) (omega (arith, lt))

-- ---- a part of a list

abbrev part : ℕ → ℕ → List ℕ → List ℕ
part n from xs = take n (drop from xs)

part_at : (n from : ℕ) (xs : List ℕ) (k : ℕ) → k < n → get_or (part n from xs) k 0 ≡ get_or xs (from + k) 0
part_at n from xs k lt = get_or-take n (drop from xs) k 0 lt ∙ get_or-drop from xs k 0

part_long : (n from : ℕ) (xs : List ℕ) → from + n ≤ length xs → length (part n from xs) ≡ n
part_long n from xs le = length-take-le n (drop from xs) (let rest = length-drop from xs in omega (arith, rest, le))

-- these places, and no others, have the release
pub record IsSpan (rs : List ℕ) (release first count : ℕ) : Type 0 where
  within : first + count ≤ length rs
  all : (k : ℕ) → k < count → get_or rs (first + k) 0 ≡ release
  only : (i : ℕ) → i < length rs → get_or rs i 0 ≡ release → (first ≤ i) × (i < first + count)

span_is : (rs : List ℕ) (release first count n : ℕ) → first + n ≡ length rs → count ≤ n
    → IsPartitionPoint (λ r. nat_lt r release ≡ true) (λ r. nat_lt r release ≡ false) rs first
    → IsPartitionPoint (λ r. nat_le r release ≡ true) (λ r. nat_le r release ≡ false) (part n first rs) count
    → IsSpan rs release first count
span_is rs release first count n long few low high = record {
  within = omega (arith, long, few);
  all = λ k lt.
      let not_below : nat_lt (get_or rs (first + k) 0) release ≡ false = low.1 (first + k) 0 (omega arith) (omega (arith, long, few, lt)) in
      let not_above : nat_le (get_or (part n first rs) k 0) release ≡ true = high.0 k 0 (omega arith) lt in
      let at : nat_le (get_or rs (first + k) 0) release ≡ true = ap (λ r. nat_le r release) (sym (part_at n first rs k (omega (arith, few, lt)))) ∙ not_above in
      grind (arith, nat_tests, not_below, at);
  only = λ i lt is. (from i lt is (cases_lt i first), to i lt is (cases_lt i (first + count)));
}
  where
    from : (i : ℕ) → i < length rs → get_or rs i 0 ≡ release → (i < first) ⊎ (first ≤ i) → first ≤ i
    from i lt is (inr le) = le
    from i lt is (inl less) =
        let below : nat_lt (get_or rs i 0) release ≡ true = low.0 i 0 (omega arith) less in
        let under : get_or rs i 0 < release = grind (arith, nat_tests, below) in
        absurd (omega (arith, under, is))

    to : (i : ℕ) → i < length rs → get_or rs i 0 ≡ release → (i < first + count) ⊎ (first + count ≤ i) → i < first + count
    to i lt is (inl less) = less
    to i lt is (inr more) =
        let k : ℕ = i - first in
        let place : first + k ≡ i = omega (arith, more) in
        let inside : k < n = omega (arith, place, lt, long) in
        let long_part = part_long n first rs (omega (arith, long)) in
        let above : nat_le (get_or (part n first rs) k 0) release ≡ false = high.1 k 0 (omega (arith, place, more)) (omega (arith, long_part, inside)) in
        let read : get_or (part n first rs) k 0 ≡ release = part_at n first rs k inside ∙ ap (λ j. get_or rs j 0) place ∙ is in
        let over : release < get_or (part n first rs) k 0 = grind (arith, nat_tests, above) in
        absurd (omega (arith, over, read))

-- the two places that are searched for
pub span_read : (rs xs ys : List ℕ) (release first count : ℕ) → xs ≡ rs → ys ≡ rs → first ≤ length xs → count ≤ length (part (length ys - first) first ys)
    → IsPartitionPoint (λ r. nat_lt r release ≡ true) (λ r. nat_lt r release ≡ false) xs first
    → IsPartitionPoint (λ r. nat_le r release ≡ true) (λ r. nat_le r release ≡ false) (part (length ys - first) first ys) count
    → IsSpan rs release first count
span_read rs xs ys release first count one two le few low high =
    let low_is = subst (λ l. IsPartitionPoint (λ r. nat_lt r release ≡ true) (λ r. nat_lt r release ≡ false) l first) one low in
    let high_is = subst (λ l. IsPartitionPoint (λ r. nat_le r release ≡ true) (λ r. nat_le r release ≡ false) (part (length l - first) first l) count) two high in
    let from : first ≤ length rs = subst (λ l. first ≤ length l) one le in
    let to : count ≤ length (part (length rs - first) first rs) = subst (λ l. count ≤ length (part (length l - first) first l)) two few in
    let long = part_long (length rs - first) first rs (omega (arith, from)) in
    span_is rs release first count (length rs - first) (omega (arith, from)) (omega (arith, to, long)) low_is high_is

-- ---- what a search says

module _ (ds : List Dispatch) (row : AreInRow ds) where
  releases_rise : (i j : ℕ) → i ≤ j → j < length (map moment_of ds) → get_or (map moment_of ds) i 0 ≤ get_or (map moment_of ds) j 0
  releases_rise i j le lt = by (cases_lt i j)
    where
      rise : Before (get_or (map moment_of ds) i 0) (get_or (map number_of ds) i 0) (get_or (map moment_of ds) j 0) (get_or (map number_of ds) j 0) → get_or (map moment_of ds) i 0 ≤ get_or (map moment_of ds) j 0
      rise (inl less) = omega (arith, less)
      rise (inr same) = let is = same.0 in omega (arith, is)

      by : (i < j) ⊎ (j ≤ i) → get_or (map moment_of ds) i 0 ≤ get_or (map moment_of ds) j 0
      by (inl less) = rise (before_at ds i j row less (let long = length-map ds moment_of in omega (arith, long, lt)))
      by (inr more) = let same : i ≡ j = omega (arith, le, more) in subst (λ k. get_or (map moment_of ds) i 0 ≤ get_or (map moment_of ds) k 0) same (omega arith)

  pub rises : (rs : List ℕ) → rs ≡ map moment_of ds → IsNonDecreasingBy (λ r. r) rs
  rises rs is = subst (IsNonDecreasingBy (λ r. r)) (sym is) (IsNonDecreasingBy-from_default (λ r. r) (map moment_of ds) 0 releases_rise)

  module _ (number release first count : ℕ) (span : IsSpan (map moment_of ds) release first count) where
    long_ds : first + count ≤ length ds
    long_ds = let within = span.within in let long = length-map ds moment_of in omega (arith, long, within)

    long_numbers : length (part count first (map number_of ds)) ≡ count
    long_numbers = part_long count first (map number_of ds) (let long = length-map ds number_of in let within = long_ds in omega (arith, long, within))

    number_at : (k : ℕ) → k < count → get_or (part count first (map number_of ds)) k 0 ≡ get_or (map number_of ds) (first + k) 0
    number_at k lt = part_at count first (map number_of ds) k lt

    numbers_rise : (i j : ℕ) → i ≤ j → j < length (part count first (map number_of ds)) → get_or (part count first (map number_of ds)) i 0 ≤ get_or (part count first (map number_of ds)) j 0
    numbers_rise i j le lt = by (cases_lt i j)
      where
        inside : j < count
        inside = let long = long_numbers in omega (arith, long, lt)

        rise : i < j → Before (get_or (map moment_of ds) (first + i) 0) (get_or (map number_of ds) (first + i) 0) (get_or (map moment_of ds) (first + j) 0) (get_or (map number_of ds) (first + j) 0)
            → get_or (part count first (map number_of ds)) i 0 ≤ get_or (part count first (map number_of ds)) j 0
        rise less (inl under) =
            let one = span.all i (omega (arith, less, inside)) in
            let two = span.all j inside in
            absurd (omega (arith, under, one, two))
        rise less (inr same) =
            let one = number_at i (omega (arith, less, inside)) in
            let two = number_at j inside in
            let under = same.1 in
            omega (arith, one, two, under)

        by : (i < j) ⊎ (j ≤ i) → get_or (part count first (map number_of ds)) i 0 ≤ get_or (part count first (map number_of ds)) j 0
        by (inl less) = rise less (before_at ds (first + i) (first + j) row (omega (arith, less)) (let within = long_ds in omega (arith, within, inside)))
        by (inr more) = let same : i ≡ j = omega (arith, le, more) in subst (λ k. get_or (part count first (map number_of ds)) i 0 ≤ get_or (part count first (map number_of ds)) k 0) same (omega arith)

    -- an entry of both is among those of the release
    inside_at : (k : ℕ) → IsEntry number release ds k → (j : ℕ) × (j < count) × (get_or (part count first (map number_of ds)) j 0 ≡ number)
    inside_at k is =
        let one = entry_reads number release ds k is in
        let i = one.0 in
        let reads = one.1 in
        let place = span.only i (let long = length-map ds moment_of in let within = reads.within in omega (arith, long, within)) reads.is_release in
        let j : ℕ = i - first in
        let at : first + j ≡ i = (let from = place.0 in omega (arith, from)) in
        let lt : j < count = (let to = place.1 in omega (arith, at, to)) in
        (j, lt, number_at j lt ∙ ap (λ k. get_or (map number_of ds) k 0) at ∙ reads.is_number)

    told_by : (r : Result ℕ ℕ) → IsBinarySearchResult (λ y. nat_cmp y number) (part count first (map number_of ds)) r
        → MatchOption (result_ok r) (Finds number release ds None) (λ at. IsEntry number release ds (first + at + 1))
    told_by (Ok at) is =
        let found = searched (part count first (map number_of ds)) number (Ok at) is numbers_rise in
        let lt : at < count = (let within = found.0 in let long = long_numbers in omega (arith, within, long)) in
        reads_entry number release ds (first + at) (record {
          within = (let within = long_ds in omega (arith, within, lt));
          is_number = sym (number_at at lt) ∙ found.1;
          is_release = span.all at lt;
        })
    told_by (Err at) is = λ k entry.
        let point = searched (part count first (map number_of ds)) number (Err at) is numbers_rise in
        let one = inside_at k entry in
        apart one.0 one.1 one.2 point.1 point.2 (cases_lt one.0 at)
      where
        apart : (j : ℕ) → j < count → get_or (part count first (map number_of ds)) j 0 ≡ number
            → ((k : ℕ) → k < at → get_or (part count first (map number_of ds)) k 0 < number)
            → ((k : ℕ) → at ≤ k → k < length (part count first (map number_of ds)) → number < get_or (part count first (map number_of ds)) k 0)
            → (j < at) ⊎ (at ≤ j) → ⊥
        apart j lt same below above (inl less) = let under = below j less in omega (arith, under, same)
        apart j lt same below above (inr more) = let over = above j more (let long = long_numbers in omega (arith, long, lt)) in omega (arith, over, same)

    pub told : (ns : List ℕ) (n : ℕ) (r : Result ℕ ℕ) (o : Option ℕ) → ns ≡ map number_of ds → n ≡ count → o ≡ result_ok r
        → IsBinarySearchResult (λ y. nat_cmp y number) (part n first ns) r
        → MatchOption o (Finds number release ds None) (λ at. IsEntry number release ds (first + at + 1))
    told ns n r o ns_is n_is o_is is = rw o_is (told_by r (rw (sym ns_is, sym n_is) is))
