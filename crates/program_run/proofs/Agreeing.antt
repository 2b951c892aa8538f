-- Whoever reads files of bytes by the spelling finds them whole, or nobody does; and files that open to a list show no trouble.
use Rattle.std.proofs.Common.{◌≡◌, inl, inr, ℕ, ◌+◌, List, [], ◌∷◌, ◌++◌, length, take, drop, map, cond, Bool, true, false, Option, Some, None, refl, sym, ◌∙◌, ap, subst}
use Rattle.std.specs.Prelude.{slice_get, unwrap_or}
use Rattle.std.specs.Option.{option_or, option_map}
use Rattle.std.proofs.lemmas.List.{map-append}
use Rattle.news_types.specs.Names.{Bytes}
use Rattle.news_types.specs.History.{History}
use Rattle.news_types.specs.Members.{Each}
use Rattle.byte_formats.specs.Lawful.{IsBytes}
use Rattle.news_io.specs.declared.record.Record.{Record}
use Rattle.news_journal.specs.Log.{Reading, Holding, Broken, reading, payloads_of}
use Rattle.news_journal.specs.Opened.{payloads}
use Rattle.news_pair.specs.Pair.{PairOpens}
use Rattle.news_pair.specs.Placed.{pair_records}
use Rattle.news_room.specs.Opening as room
use Rattle.store_files.specs.Store as store
use Rattle.store_files.specs.declared.trouble.Trouble.TheVariants as trouble
use Rattle.store_files.proofs.Serving as serving
use Rattle.program_run.specs.Damage.{Place, Framed, Readers, Finders, Stored, Damage, InLog, InSide, held, first_of, in_file, entries_of, no_segment, starts_at, misplaced, packed_by, no_entry, pair_damage, log_damage, side_damage, records_in, is_bare, beside, bare_base, apart, differs, side_list, behind, placed, bytes_of, HasBadRecord, HasNoList, IsDamaged}
use Rattle.program_run.specs.Opens.{base_of, Opens}
use Rattle.program_run.specs.Refused.{Cause}
use Rattle.program_run.proofs.Alike.{opened_as}
use Rattle.program_run.proofs.Damaging.{the_readers, turned, damage_is, stored_of, placed_is}
use Rattle.program_run.proofs.Opening.{read_bytes, drop_bytes, opens_so}
use Rattle.program_run.proofs.Refusing.{none_turned}
use Rattle.run_status.specs.declared.status.Status.{Status}
use Rattle.run_status.specs.declared.status.Status.TheVariants as status

-- ---- nothing is found

both_none : (a b : Option Damage) → option_or a b ≡ None → (a ≡ None) × (b ≡ None)
both_none None b is = (refl, is)
both_none (Some d) b is = absurd (cc is)

or_none : (a b : Option Damage) → a ≡ None → b ≡ None → option_or a b ≡ None
or_none None b none more = more
or_none (Some d) b none more = absurd (cc none)

none_mapped : (f : Place → Damage) (found : Option Place) → option_map f found ≡ None → found ≡ None
none_mapped f None is = refl
none_mapped f (Some place) is = absurd (cc is)

mapped_none : (f : Place → Damage) (found : Option Place) → found ≡ None → option_map f found ≡ None
mapped_none f found is = ap (option_map f) is

no_place : (x : Framed) (found : Option ℕ) → in_file x found ≡ None → found ≡ None
no_place x None is = refl
no_place x (Some at) is = absurd (cc is)

first_none : (f : Framed → Option Place) (x : Framed) (xs : List Framed) → option_or (f x) (first_of f xs) ≡ None → (f x ≡ None) × (first_of f xs ≡ None)
first_none f x xs is = by_first (f x) refl
  where
    by_first : (found : Option Place) → f x ≡ found → (f x ≡ None) × (first_of f xs ≡ None)
    by_first None same = (same, ap (λ (found : Option Place). option_or found (first_of f xs)) (sym same) ∙ is)
    by_first (Some place) same = absurd (cc (ap (λ (found : Option Place). option_or found (first_of f xs)) (sym same) ∙ is))

none_first : (f : Framed → Option Place) (x : Framed) (xs : List Framed) → f x ≡ None → first_of f xs ≡ None → option_or (f x) (first_of f xs) ≡ None
none_first f x xs one more = ap (λ (found : Option Place). option_or found (first_of f xs)) one ∙ more

-- ---- the payloads of files of bytes

abbrev OfBytes : Framed → Type 0
OfBytes x = IsBytes x.1

each_framed : (xs : List Framed) → Each IsBytes (map (λ (x : Framed). x.1) xs) → Each OfBytes xs
each_framed [] each = tt
each_framed (x ∷ xs) each = (each.0, each_framed xs each.1)

records_of_bytes : (file : List ℕ) → IsBytes file → Each OfBytes (records_in file)
unfolding records_in
records_of_bytes file ib = by_reading (reading (length file) 64 (drop 64 file)) refl
  where
    by_reading : (r : Reading) → reading (length file) 64 (drop 64 file) ≡ r → Each OfBytes (held r)
    by_reading (Holding rs) same = each_framed rs (read_bytes (length file) 64 (drop 64 file) (map (λ (x : Framed). x.1) rs) (drop_bytes 64 file ib) (ap payloads_of same))
    by_reading (Broken at found) same = tt

beside_of_bytes : (side : List ℕ) → IsBytes side → Each OfBytes (unwrap_or (beside side) [])
beside_of_bytes side ib = by_bare (is_bare side)
  where
    by_bare : (b : Bool) → Each OfBytes (unwrap_or (cond b None (Some (records_in side))) [])
    by_bare true = tt
    by_bare false = records_of_bytes side ib

-- ---- two readers

module _ (r other : Readers) where
  abbrev SameIn : Framed → Type 0
  SameIn x = other.segment_in x.1 ≡ r.segment_in x.1

  same_segment : (x : Framed) → IsBytes x.1 → no_segment r x ≡ None → (no_segment other x ≡ None) × SameIn x
  same_segment x ib none =
      let s = r.found x.1 (no_place x (r.segment_place x.1) none) in
      let of = r.segments x.1 s.0.0 s.0.1 ib s.1 in
      let again = other.again s.0.0 of.0 of.1 in (
        ap (in_file x) (ap other.segment_place of.2 ∙ again.0),
        ap other.segment_in of.2 ∙ again.1 ∙ ap (λ (ps : List Bytes). Some (s.0.0, ps)) (sym of.3) ∙ sym s.1,
      )

  same_segments : (xs : List Framed) → Each OfBytes xs → first_of (no_segment r) xs ≡ None → (first_of (no_segment other) xs ≡ None) × Each SameIn xs
  same_segments [] ib none = (refl, tt)
  same_segments (x ∷ xs) ib none =
      let parts = first_none (no_segment r) x xs none in
      let one = same_segment x ib.0 parts.0 in
      let more = same_segments xs ib.1 parts.1 in
      (none_first (no_segment other) x xs one.0 more.0, (one.1, more.1))

  same_places : (n : ℕ) (xs : List Framed) → Each SameIn xs → misplaced other n xs ≡ misplaced r n xs
  same_places n [] same = refl
  same_places n (x ∷ xs) same =
      ap (λ (found : Option (ℕ × List Bytes)). cond (starts_at n found) (misplaced other (n + length (entries_of found)) xs) (Some (x.0, Some 1))) same.0
      ∙ ap (λ (more : Option Place). cond (starts_at n (r.segment_in x.1)) more (Some (x.0, Some 1))) (same_places (n + length (entries_of (r.segment_in x.1))) xs same.1)

  same_packed : (xs : List Framed) → Each SameIn xs → packed_by other xs ≡ packed_by r xs
  same_packed [] same = refl
  same_packed (x ∷ xs) same = ap (λ (found : Option (ℕ × List Bytes)). entries_of found ++ packed_by other xs) same.0 ∙ ap (λ (l : List Bytes). entries_of (r.segment_in x.1) ++ l) (same_packed xs same.1)

  same_list : (xs : List Framed) → Each SameIn xs → side_list other xs ≡ side_list r xs
  same_list [] same = refl
  same_list (x ∷ xs) same =
      ap (λ (found : Option (ℕ × List Bytes)). map (λ (p : Bytes). (true, (x.0, p))) (entries_of found) ++ side_list other xs) same.0
      ∙ ap (λ (l : List Stored). map (λ (p : Bytes). (true, (x.0, p))) (entries_of (r.segment_in x.1)) ++ l) (same_list xs same.1)

  same_entry : (x : Framed) → IsBytes x.1 → no_entry r x ≡ None → no_entry other x ≡ None
  same_entry x ib none = by_place (other.entry x.1) refl
    where
      by_place : (found : Option ℕ) → other.entry x.1 ≡ found → in_file x found ≡ None
      by_place None is = refl
      by_place (Some at) is =
          let e = r.entries x.1 ib (no_place x (r.entry x.1) none) in
          absurd ((other.no_entries x.1 at ib is).none e.0 e.1 (sym e.2))

  same_entries : (xs : List Framed) → Each OfBytes xs → first_of (no_entry r) xs ≡ None → first_of (no_entry other) xs ≡ None
  same_entries [] ib none = refl
  same_entries (x ∷ xs) ib none =
      let parts = first_none (no_entry r) x xs none in
      none_first (no_entry other) x xs (same_entry x ib.0 parts.0) (same_entries xs ib.1 parts.1)

  module _ (log side : List ℕ) (ib : IsBytes log) (ib' : IsBytes side) (whole : pair_damage r log side ≡ None) where
    abbrev segments : List Framed
    segments = unwrap_or (beside side) []

    abbrev byte : Option ℕ
    byte = slice_get log 10

    -- the rows, one by one
    record Rows : Type 0 where
      row_1 : log_damage log ≡ None
      row_2 : side_damage (take 16 (drop 16 log)) side ≡ None
      row_3 : bare_base (base_of log) byte (beside side) ≡ None
      row_4 : first_of (no_segment r) segments ≡ None
      row_5 : misplaced r 0 segments ≡ None
      row_6 : first_of (no_entry r) (records_in log) ≡ None
      row_7 : apart (base_of log) byte (length (packed_by r segments)) (records_in log) ≡ None
      row_8 : differs (drop (base_of log) (packed_by r segments)) (records_in log) ≡ None

    rows : Rows
    unfolding pair_damage
    rows =
        let one = both_none (option_map InLog (log_damage log)) _ whole in
        let two = both_none (option_map InSide (side_damage (take 16 (drop 16 log)) side)) _ one.1 in
        let three = both_none (option_map InLog (bare_base (base_of log) byte (beside side))) _ two.1 in
        let four = both_none (option_map InSide (first_of (no_segment r) segments)) _ three.1 in
        let five = both_none (option_map InSide (misplaced r 0 segments)) _ four.1 in
        let six = both_none (option_map InLog (first_of (no_entry r) (records_in log))) _ five.1 in
        let seven = both_none (option_map InLog (apart (base_of log) byte (length (packed_by r segments)) (records_in log))) _ six.1 in
        record {
          row_1 = none_mapped InLog _ one.0;
          row_2 = none_mapped InSide _ two.0;
          row_3 = none_mapped InLog _ three.0;
          row_4 = none_mapped InSide _ four.0;
          row_5 = none_mapped InSide _ five.0;
          row_6 = none_mapped InLog _ six.0;
          row_7 = none_mapped InLog _ seven.0;
          row_8 = none_mapped InLog _ seven.1;
        }

    same_side : Each SameIn segments
    same_side = (same_segments segments (beside_of_bytes side ib') rows.row_4).1

    -- the other finds them whole too
    pub agree : pair_damage other log side ≡ None
    unfolding pair_damage
    agree =
        or_none _ _ (mapped_none InLog _ rows.row_1)
        (or_none _ _ (mapped_none InSide _ rows.row_2)
        (or_none _ _ (mapped_none InLog _ rows.row_3)
        (or_none _ _ (mapped_none InSide _ (same_segments segments (beside_of_bytes side ib') rows.row_4).0)
        (or_none _ _ (mapped_none InSide _ (same_places 0 segments same_side ∙ rows.row_5))
        (or_none _ _ (mapped_none InLog _ (same_entries (records_in log) (records_of_bytes log ib) rows.row_6))
        (or_none _ _
        (mapped_none InLog _ (ap (λ (l : List Bytes). apart (base_of log) byte (length l) (records_in log)) (same_packed segments same_side) ∙ rows.row_7))
        (mapped_none InLog _ (ap (λ (l : List Bytes). differs (drop (base_of log) l) (records_in log)) (same_packed segments same_side) ∙ rows.row_8))))))))

    -- and the same records in them
    pub same_placed : placed other log side ≡ placed r log side
    unfolding placed
    same_placed = ap (behind (base_of log) (records_in log)) (same_list segments same_side)

-- ---- files that open to a list

abbrev record_of : Stored → Record
record_of s = record { at = s.1.0; side = s.0; bytes = s.1.1 }

back_again : (rs : List Record) → map record_of (map stored_of rs) ≡ rs
back_again [] = refl
back_again (x ∷ rs) = ap (λ (l : List Record). x ∷ l) (back_again rs)

payloads_back : (rs : List Stored) → payloads (map record_of rs) ≡ map bytes_of rs
payloads_back [] = refl
payloads_back (x ∷ rs) = ap (λ (l : List Bytes). x.1.1 ∷ l) (payloads_back rs)

bad_again : (rs : List Stored) (in_side : Bool) (at : ℕ) (found : Option ℕ) → HasBadRecord rs in_side at found → room.HasBadRecord (map record_of rs) in_side at found
bad_again rs in_side at found bad = record {
  before = map record_of bad.before;
  here = record_of bad.here;
  after = map record_of bad.later;
  are = ap (map record_of) bad.are ∙ map-append record_of bad.before (bad.here ∷ bad.later);
  list = bad.list;
  opens = record { is = payloads_back bad.before ∙ bad.opens; kept = bad.stored };
  file_is = bad.file_is;
  damage = elim bad.damage [
    | inl none ↦ inl (record { place = none.place; fault = none.fault; at_is = none.at_is; found_is = none.found_is })
    | inr u ↦ inr (record { next = u.next; is = u.is; entry = u.entry; unlawful = u.unlawful; at_is = u.at_is; found_is = u.found_is })
  ];
}

-- a status that no bytes show
abbrev pub IsNotOfBytes : Status → Type 0
IsNotOfBytes status.Store = Unit {0}
IsNotOfBytes status.Memory = Unit {0}
IsNotOfBytes why = ⊥

module _ (log side : List ℕ) (id : Bytes) (list : History) (long : length id ≡ 16) (ib : IsBytes log) (ib' : IsBytes side) (opens : Opens log side id list) where
  abbrev was : store.Opens log side id list
  was = opened_as id long log side list opens

  pub whole : (r : Readers) → pair_damage r log side ≡ None
  whole r = agree the_readers r log side ib ib' (none_turned (pair_damage the_readers log side) (sym (damage_is log side) ∙ serving.whole log side id list long was))

  records_same : (r : Readers) → map record_of (placed r log side) ≡ pair_records log side
  records_same r = ap (map record_of) (same_placed the_readers r log side ib ib' (whole the_readers) ∙ sym (placed_is log side)) ∙ back_again (pair_records log side)

  old_none : (r : Readers) (in_side : Bool) (at : ℕ) (found : Option ℕ) → HasNoList r log side in_side at found → store.HasNoList log side in_side at found
  old_none r in_side at found none = record {
    whole = damage_is log side ∙ ap (option_map turned) (whole the_readers);
    store = none.store;
    long = none.long;
    pair = subst (PairOpens none.store log side) (sym (payloads_back (placed r log side)) ∙ ap payloads (records_same r)) (opens_so none.store none.long log side (map bytes_of (placed r log side)) (none.holds ib'));
    damage = subst (λ (rs : List Record). room.HasBadRecord rs in_side at found) (records_same r) (bad_again (placed r log side) in_side at found none.bad);
  }

  no_list : (in_side : Bool) (at : ℕ) (found : Option ℕ) (r : Readers) → HasNoList r log side in_side at found → ⊥
  no_list false at found r none = serving.served log side id list long was (trouble.Damaged at found) (inr (old_none r false at found none), serving.no_other log side id list long was)
  no_list true at found r none = serving.served log side id list long was (trouble.DamagedSide at found) (inr (old_none r true at found none), serving.no_other log side id list long was)

  undamaged : (find : Finders) (in_side : Bool) (at : ℕ) (found : Option ℕ) → IsDamaged find log side in_side at found → ⊥
  undamaged find in_side at found d = elim d.shown [
    | inl row ↦ absurd (cc (sym (whole d.readers) ∙ row))
    | inr none ↦ no_list in_side at found d.readers none
  ]

  -- bytes that open to a list show no trouble
  pub served : (find : Finders) (why : Status) → Cause find (log, side) why → IsNotOfBytes why
  served find status.WrongStore cause = absurd (serving.no_other log side id list long was cause)
  served find status.Store cause = tt
  served find (status.Damaged at found) cause = absurd (undamaged find false at found cause)
  served find (status.DamagedSide at found) cause = absurd (undamaged find true at found cause)
  served find status.Memory cause = tt
  served find status.Done cause = absurd cause
  served find status.Usage cause = absurd cause
  served find status.Input cause = absurd cause
  served find status.Output cause = absurd cause
  served find status.Full cause = absurd cause
  served find status.Link cause = absurd cause
  served find status.NoReceipt cause = absurd cause
  served find status.TooLong cause = absurd cause
  served find (status.BadFrame at) cause = absurd cause
  served find status.BadHead cause = absurd cause
  served find status.Held cause = absurd cause
