-- Rows of damage, one behind the other.
use Rattle.std.proofs.Common.{◌≡◌, ℕ, zero, suc, ◌+◌, ◌-◌, ◌≤◌, ◌<◌, List, [], ◌∷◌, length, get_or, drop, Option, Some, None, Bool, true, false, eqb, Result, Ok, Err, refl, sym, ◌∙◌, ap, subst, arith}
use Rattle.std.specs.Option.{option_or}
use Rattle.std.specs.Prelude.{◌==◌, cond, slice_get, unwrap_or}
use Rattle.std.proofs.lemmas.Bool.Decides.{nat_tests}
use Rattle.news_types.specs.Names.{Bytes}
use Rattle.news_io.specs.declared.record.Record.{Record}
use Rattle.news_journal.specs.Opened.{payloads, places}
use Rattle.byte_formats.specs.Gives.{all_of}
use Rattle.entry_segments.specs.Reading.{segment}
use Rattle.entry_segments.specs.declared.segment.Segment.{Segment}
use Rattle.news_pair.specs.Segments.{spelled, segment_in}
use Rattle.news_pair.specs.Pair.{entries_of, packed_by}
use Rattle.news_pair.specs.Opened.{places_of, segments_of}
use Rattle.news_pair.specs.declared.side_reading.SideLog.{SideLog}
use Rattle.news_pair.specs.Damage.{Place, Framed, no_segment, no_entry, segments_damage, meeting_damage, list_damage, payloads_in, first_of, stopped_at, starts_at, misplaced, on_log, on_side, IsPairDamage}
use Rattle.news_pair.specs.Unpacking.{earlier_or}
use Rattle.news_pair.specs.declared.fault.PairFault.{PairFault}
use Rattle.news_pair.specs.declared.fault.PairFault.TheVariants.{DiskFault, Damaged, DamagedSide, Memory}

-- ---- one row and those behind it

pub or_none : {A : Type 0} (a b : Option A) → a ≡ None → b ≡ None → option_or a b ≡ None
or_none a b none none' = ap (λ o. option_or o b) none ∙ none'

pub or_next : {A : Type 0} (a b : Option A) → a ≡ None → option_or a b ≡ b
or_next a b none = ap (λ o. option_or o b) none

pub or_first : (a b : Option PairFault) (e : PairFault) → IsPairDamage a e → IsPairDamage (option_or a b) e
or_first a b (Damaged at byte) is = ap (λ o. option_or o b) is
or_first a b (DamagedSide at byte) is = ap (λ o. option_or o b) is
or_first a b DiskFault is = tt
or_first a b Memory is = tt

pub or_later : (a b : Option PairFault) (e : PairFault) → a ≡ None → IsPairDamage b e → IsPairDamage (option_or a b) e
or_later a b e none is = subst (λ o. IsPairDamage o e) (sym (or_next a b none)) is

pub judged_by : (a b : Option PairFault) (e : PairFault) → a ≡ b → IsPairDamage b e → IsPairDamage a e
judged_by a b e same is = subst (λ o. IsPairDamage o e) (sym same) is

-- the same of places on one side
pub on_log_or : (a b : Option Place) → on_log (option_or a b) ≡ option_or (on_log a) (on_log b)
on_log_or None b = refl
on_log_or (Some p) b = refl

pub on_side_or : (a b : Option Place) → on_side (option_or a b) ≡ option_or (on_side a) (on_side b)
on_side_or None b = refl
on_side_or (Some p) b = refl

pub log_none : (p : Option Place) → on_log p ≡ None → p ≡ None
log_none None is = refl
log_none (Some p) is = absurd (cc is)

pub side_none : (p : Option Place) → on_side p ≡ None → p ≡ None
side_none None is = refl
side_none (Some p) is = absurd (cc is)

-- ---- a record at its place

pub places_step : (rs : List Record) (i : ℕ) (r : Record) → i < length rs → r ≡ get_or rs i r → drop i (places rs) ≡ (r.at, r.bytes) ∷ drop (i + 1) (places rs)
places_step [] i r less is = absurd (omega arith)
places_step (q ∷ rs) zero r less is = ap (λ (x : Record). (x.at, x.bytes) ∷ places rs) (sym is)
places_step (q ∷ rs) (suc i) r less is =
    let e : suc i + 1 ≡ suc (i + 1) = omega arith in
    places_step rs i r (omega arith) is ∙ ap (λ (n : ℕ). (r.at, r.bytes) ∷ drop n (places (q ∷ rs))) (sym e)

pub places_end : (rs : List Record) (i : ℕ) → length rs ≤ i → drop i (places rs) ≡ []
places_end [] zero le = refl
places_end [] (suc i) le = refl
places_end (r ∷ rs) zero le = absurd (omega arith)
places_end (r ∷ rs) (suc i) le = places_end rs i (omega arith)

module _ (f : Framed → Option Place) (rs : List Record) (i : ℕ) where
  pub first_step : (r : Record) → i < length rs → r ≡ get_or rs i r → first_of f (places rs) ≡ first_of f (drop i (places rs)) → first_of f (places rs) ≡ option_or (f (r.at, r.bytes)) (first_of f (drop (i + 1) (places rs)))
  first_step r less is so_far = so_far ∙ ap (first_of f) (places_step rs i r less is)

  pub first_passed : (r : Record) → i < length rs → r ≡ get_or rs i r → first_of f (places rs) ≡ first_of f (drop i (places rs)) → f (r.at, r.bytes) ≡ None → first_of f (places rs) ≡ first_of f (drop (i + 1) (places rs))
  first_passed r less is so_far none = first_step r less is so_far ∙ or_next (f (r.at, r.bytes)) (first_of f (drop (i + 1) (places rs))) none

  pub first_ended : length rs ≤ i → first_of f (places rs) ≡ first_of f (drop i (places rs)) → first_of f (places rs) ≡ None
  first_ended over so_far = so_far ∙ ap (first_of f) (places_end rs i over)

  -- where the one that is asked has it
  pub first_on_log : (r : Record) (e : PairFault) → i < length rs → r ≡ get_or rs i r → first_of f (places rs) ≡ first_of f (drop i (places rs)) → IsPairDamage (on_log (f (r.at, r.bytes))) e → IsPairDamage (on_log (first_of f (places rs))) e
  first_on_log r e less is so_far found =
      judged_by (on_log (first_of f (places rs))) (option_or (on_log (f (r.at, r.bytes))) (on_log (first_of f (drop (i + 1) (places rs))))) e
      (ap on_log (first_step r less is so_far) ∙ on_log_or (f (r.at, r.bytes)) (first_of f (drop (i + 1) (places rs))))
      (or_first (on_log (f (r.at, r.bytes))) (on_log (first_of f (drop (i + 1) (places rs)))) e found)

  pub first_on_side : (r : Record) (e : PairFault) → i < length rs → r ≡ get_or rs i r → first_of f (places rs) ≡ first_of f (drop i (places rs)) → IsPairDamage (on_side (f (r.at, r.bytes))) e → IsPairDamage (on_side (first_of f (places rs))) e
  first_on_side r e less is so_far found =
      judged_by (on_side (first_of f (places rs))) (option_or (on_side (f (r.at, r.bytes))) (on_side (first_of f (drop (i + 1) (places rs))))) e
      (ap on_side (first_step r less is so_far) ∙ on_side_or (f (r.at, r.bytes)) (first_of f (drop (i + 1) (places rs))))
      (or_first (on_side (f (r.at, r.bytes))) (on_side (first_of f (drop (i + 1) (places rs)))) e found)

-- ---- reading that stops

pub read_whole : {A : Type 0} (r : Framed) (read : Result A ℕ) (x : A) → read ≡ Ok x → stopped_at r read ≡ None
read_whole r read x is = ap (stopped_at r) is

pub read_stops : {A : Type 0} (r : Framed) (read : Result A ℕ) (at : ℕ) → at ≤ length r.1 → read ≡ Err (length r.1 - at) → stopped_at r read ≡ Some (r.0 + 5 + at, slice_get r.1 at)
read_stops r read at within is =
    let back : length r.1 - (length r.1 - at) ≡ at = omega arith in
    ap (stopped_at r) is ∙ ap (λ (n : ℕ). Some (r.0 + 5 + n, slice_get r.1 n)) back

-- ---- the place of a segment

-- what the segments from here on tell, behind so many entries and perhaps a gate that was found
abbrev pub FromHere : Option ℕ → ℕ → List Framed → Option Place → Type 0
FromHere None n rs found = found ≡ misplaced n rs
FromHere (Some gate) n rs found = found ≡ Some (gate, Some 1)

place_known : (n n' : ℕ) (r : Framed) (rs : List Framed) (base : ℕ) (es : List Bytes) (found : Option Place) (b : Bool) → (base == n) ≡ b → segment_in r.1 ≡ Some (base, es) → n' ≡ n + length es → found ≡ misplaced n (r ∷ rs)
    → FromHere (cond b None (Some r.0)) n' rs found
place_known n n' r rs base es found true is segment sum so_far =
    so_far
    ∙ ap (λ (o : Option (ℕ × List Bytes)). cond (starts_at n o) (misplaced (n + length (entries_of o)) rs) (Some (r.0, Some 1))) segment
    ∙ ap (λ (t : Bool). cond t (misplaced (n + length es) rs) (Some (r.0, Some 1))) is
    ∙ ap (λ (k : ℕ). misplaced k rs) (sym sum)
place_known n n' r rs base es found false is segment sum so_far =
    so_far
    ∙ ap (λ (o : Option (ℕ × List Bytes)). cond (starts_at n o) (misplaced (n + length (entries_of o)) rs) (Some (r.0, Some 1))) segment
    ∙ ap (λ (t : Bool). cond t (misplaced (n + length es) rs) (Some (r.0, Some 1))) is

pub place_step : (m : Option ℕ) (n n' : ℕ) (r : Framed) (rs : List Framed) (base : ℕ) (es : List Bytes) (found : Option Place) → segment_in r.1 ≡ Some (base, es) → n' ≡ n + length es → FromHere m n (r ∷ rs) found → FromHere (earlier_or m r.0 base n) n' rs found
place_step (Some gate) n n' r rs base es found is sum so_far = so_far
place_step None n n' r rs base es found is sum so_far = place_known n n' r rs base es found (base == n) refl is sum so_far

-- none was found before, and this one is in its place
pub none_earlier : (m : Option ℕ) (gate base n : ℕ) → earlier_or m gate base n ≡ None → (m ≡ None) × (base ≡ n)
none_earlier (Some earlier) gate base n is = absurd (cc is)
none_earlier None gate base n is = (refl, by_test (base == n) refl is)
  where
    by_test : (b : Bool) → (base == n) ≡ b → cond b None (Some gate) ≡ None → base ≡ n
    by_test true same e = grind (arith, nat_tests)
    by_test false same e = absurd (cc e)

-- behind the last segment
pub none_misplaced : (m : Option ℕ) (n : ℕ) (rs : List Framed) (found : Option Place) → rs ≡ [] → FromHere m n rs found → m ≡ None → found ≡ None
none_misplaced m n rs found nil so_far none =
    let here = subst (λ (o : Option ℕ). FromHere o n rs found) none so_far in
    here ∙ ap (misplaced n) nil

pub some_misplaced : (m : Option ℕ) (n : ℕ) (rs : List Framed) (found : Option Place) (gate : ℕ) → FromHere m n rs found → m ≡ Some gate → found ≡ Some (gate, Some 1)
some_misplaced m n rs found gate so_far some = subst (λ (o : Option ℕ). FromHere o n rs found) some so_far

pub read_segment_whole : (r : Framed) (base : ℕ) (es : List Bytes) → segment_in r.1 ≡ Some (base, es) → stopped_at r (all_of segment r.1) ≡ None
unfolding segment_in
read_segment_whole r base es is = by_read (all_of segment r.1) is
  where
    by_read : (read : Result Segment ℕ) → spelled read ≡ Some (base, es) → stopped_at r read ≡ None
    by_read (Ok s) e = refl
    by_read (Err left) e = absurd (cc e)

-- ---- rows 3 to 5

module _ (base : ℕ) (byte : Option ℕ) where
  pub bare_other : (base ≡ 0 → ⊥) → segments_damage base byte None ≡ Some (Damaged 10 byte)
  unfolding segments_damage
  bare_other other = let t : eqb base 0 ≡ false = grind (arith, nat_tests) in rw t refl

  pub bare_zero : base ≡ 0 → segments_damage base byte None ≡ None
  unfolding segments_damage
  bare_zero is = let t : eqb base 0 ≡ true = grind (arith, nat_tests) in rw t refl

  pub of_segments : (rs : List Framed) → segments_damage base byte (Some rs) ≡ option_or (on_side (first_of no_segment rs)) (on_side (misplaced 0 rs))
  unfolding segments_damage
  of_segments rs = refl

-- ---- rows 3 to 8

payloads_placed : (rs : List Record) → payloads_in (places rs) ≡ payloads rs
payloads_placed [] = refl
payloads_placed (r ∷ rs) = ap (λ (l : List Bytes). r.bytes ∷ l) (payloads_placed rs)

pub segments_placed : (found : Option SideLog) → payloads_in (unwrap_or (places_of found) []) ≡ segments_of found
segments_placed None = refl
segments_placed (Some side) = payloads_placed side.records.items

module _ (base : ℕ) (byte : Option ℕ) (rs : List Framed) (found : Option SideLog) where
  pub list_rows : (g : List Bytes) → g ≡ packed_by (segments_of found)
      → list_damage base byte rs (places_of found) ≡ option_or (segments_damage base byte (places_of found)) (option_or (on_log (first_of no_entry rs)) (meeting_damage base byte g rs))
  unfolding list_damage
  list_rows g is =
      ap (λ (l : List Bytes). option_or (segments_damage base byte (places_of found)) (option_or (on_log (first_of no_entry rs)) (meeting_damage base byte l rs)))
      (ap packed_by (segments_placed found) ∙ sym is)

  pub list_first : (e : PairFault) → IsPairDamage (segments_damage base byte (places_of found)) e → IsPairDamage (list_damage base byte rs (places_of found)) e
  unfolding list_damage
  list_first e is = or_first (segments_damage base byte (places_of found)) _ e is

  pub list_second : (e : PairFault) → segments_damage base byte (places_of found) ≡ None → IsPairDamage (on_log (first_of no_entry rs)) e → IsPairDamage (list_damage base byte rs (places_of found)) e
  unfolding list_damage
  list_second e none is = or_later (segments_damage base byte (places_of found)) _ e none (or_first (on_log (first_of no_entry rs)) _ e is)

  pub list_third : (g : List Bytes) (e : PairFault) → g ≡ packed_by (segments_of found) → segments_damage base byte (places_of found) ≡ None → on_log (first_of no_entry rs) ≡ None → IsPairDamage (meeting_damage base byte g rs) e
      → IsPairDamage (list_damage base byte rs (places_of found)) e
  list_third g e is none none' damage =
      judged_by _ _ e (list_rows g is) (or_later (segments_damage base byte (places_of found)) _ e none (or_later (on_log (first_of no_entry rs)) (meeting_damage base byte g rs) e none' damage))

  pub list_whole : (g : List Bytes) → g ≡ packed_by (segments_of found) → segments_damage base byte (places_of found) ≡ None → on_log (first_of no_entry rs) ≡ None → meeting_damage base byte g rs ≡ None → list_damage base byte rs (places_of found) ≡ None
  list_whole g is none none' none'' = list_rows g is ∙ or_none _ _ none (or_none _ _ none' none'')
