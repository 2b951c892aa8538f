-- Files that open to entries are whole: no row of damage holds of them.
use Rattle.std.proofs.Common.{◌≡◌, ◌⊎◌, inl, inr, ℕ, zero, suc, ◌+◌, ◌-◌, ◌≤◌, ◌<◌, List, [], ◌∷◌, ◌++◌, length, take, drop, map, cond, eqb, leb, ◌&&◌, Option, Some, None, Bool, true, false, Ok, refl, sym, ◌∙◌, ap, subst, arith, append_assoc, length-append, length-take, length-drop}
use Rattle.std.specs.Prelude.{slice_index, slice_get, unwrap_or}
use Rattle.std.specs.Option.{option_or}
use Rattle.std.proofs.lemmas.Bool.{cases_Bool, eq-eqb, le-leb}
use Rattle.std.proofs.lemmas.Bool.Decides.{nat_tests}
use Rattle.std.proofs.lemmas.List.{take_at, drop_at, drop-take}
use Rattle.news_types.specs.Names.{Bytes, same}
use Rattle.news_types.specs.Members.{Each}
use Rattle.news_types.specs.declared.entry.Entry.{Entry}
use Rattle.news_types.proofs.Members.{same_self}
use Rattle.byte_formats.specs.Gives.{all_of}
use Rattle.byte_formats.proofs.Whole.{all_again}
use Rattle.entry_codec.specs.Commands.{entry}
use Rattle.entry_codec.specs.Spelling.{entry_bytes}
use Rattle.entry_codec.specs.Formed.{IsEntry}
use Rattle.entry_codec.proofs.EntryLaws.{entry_lawful}
use Rattle.entry_segments.specs.Segment.{InTime}
use Rattle.news_journal.specs.Log.{Reading, Holding, Broken, room_head, IsHead, reading, payloads_of, opened}
use Rattle.news_journal.specs.Read.{opened_at}
use Rattle.news_journal.specs.Stands.{listed}
use Rattle.news_journal.specs.Damage.{header_damage, damage_of}
use Rattle.news_journal.specs.declared.header.Header.TheVariants.{Room}
use Rattle.news_journal.proofs.Opens as journal
use Rattle.news_pair.specs.Segments.{segment_in}
use Rattle.news_pair.specs.Pair.{side_head, edition_of, base_bytes, base_of, IsBare, AreSegments, entries_of, packed_by, packed_in, IsSideFile, Follows, Joined, PairOpens}
use Rattle.news_pair.specs.Damage.{Framed, Place, held, is_bare, other_kind, log_damage, side_damage, difference, records_in, beside, first_of, no_segment, no_entry, starts_at, misplaced, meets, apart, differs, on_log, on_side, segments_damage, meeting_damage, list_damage, payloads_in, store_of, pair_damage}
use Rattle.news_pair.specs.Packing.{no_later, row_behind, moment_in, out_of_order, pack_damage}
use Rattle.news_pair.specs.declared.fault.PairFault.{PairFault}
use Rattle.news_pair.specs.Law.{opened_begins, opened_long, length-side}
use Rattle.news_pair.proofs.Emptied.{length-room, bare_packed, store_there}
use Rattle.news_pair.proofs.Judging.{or_none, read_segment_whole, read_whole, bare_zero, of_segments}
use Rattle.news_pair.proofs.Ordering.{row_in_order}
use Rattle.news_pair.proofs.Rows.{difference_same, difference_ends}
use Rattle.news_pair.proofs.WereRead.{bare_is, file_not_bare, bare_whole, side_rows, bare_beside, six_bytes}

-- ---- a file that opens under a header of 64 bytes

record Reads (file : List ℕ) (ps : List Bytes) : Type 0 where
  rs : List Framed
  reads : reading (length file) 64 (drop 64 file) ≡ Holding rs
  payloads : payloads_in rs ≡ ps

reads_of : (file : List ℕ) (ps : List Bytes) → payloads_of (reading (length file) 64 (drop 64 file)) ≡ Some ps → Reads file ps
reads_of file ps is = by_reading (reading (length file) 64 (drop 64 file)) refl
  where
    by_reading : (r : Reading) → reading (length file) 64 (drop 64 file) ≡ r → Reads file ps
    by_reading (Holding rs) same = record { rs = rs; reads = same; payloads = cc (rw same at is) }
    by_reading (Broken at found) same = absurd (cc (rw same at is))

reads_so : (head file : List ℕ) (ps : List Bytes) → length head ≡ 64 → opened head file ≡ Some ps → Reads file ps
reads_so head file ps long is =
    let b = opened_begins head file ps is in
    reads_of file ps
    (ap (λ (l : List ℕ). payloads_of (reading (length file) 64 (drop 64 l))) b.1
    ∙ ap (λ (l : List ℕ). payloads_of (reading (length file) 64 l)) (drop_at head b.0 64 long)
    ∙ ap (λ (n : ℕ). payloads_of (reading (length file) n b.0)) (sym long)
    ∙ ap (λ (l : List ℕ). payloads_of (reading (length l) (length head) b.0)) b.1
    ∙ sym (opened_at head b.0)
    ∙ ap (opened head) (sym b.1)
    ∙ is)

records_so : (file : List ℕ) (rs : List Framed) → reading (length file) 64 (drop 64 file) ≡ Holding rs → records_in file ≡ rs
unfolding records_in
records_so file rs is = ap held is

-- ---- rows 1 and 2

log_so : (log : List ℕ) (rs : List Framed) → header_damage (take 64 log) ≡ None → slice_index log 9 ≡ 1 → reading (length log) 64 (drop 64 log) ≡ Holding rs → log_damage log ≡ None
unfolding log_damage
log_so log rs form kind is = or_none _ _ form (or_none _ _ (ap other_kind kind) (ap damage_of is))

room_kind : (edition : ℕ) (base store rest : List ℕ) → slice_index (room_head edition base store ++ rest) 9 ≡ 1
unfolding room_head
room_kind edition base store rest = refl

begins_alike : (place : ℕ) (wanted rest : List ℕ) → difference place wanted (wanted ++ rest) ≡ None
begins_alike place [] rest = difference_ends place rest
begins_alike place (x ∷ wanted) rest = difference_same place x x wanted (wanted ++ rest) refl ∙ begins_alike (place + 1) wanted rest

side_so : (store side : List ℕ) (ps : List Bytes) → length store ≡ 16 → is_bare side ≡ false → opened (side_head store) side ≡ Some ps → (r : Reads side ps) → side_damage store side ≡ None
side_so store side ps long file is r =
    let b = opened_begins (side_head store) side ps is in
    side_rows store side file
    ∙ or_none (difference 0 (side_head store) side) (damage_of (reading (length side) 64 (drop 64 side)))
    (ap (difference 0 (side_head store)) b.1 ∙ begins_alike 0 (side_head store) b.0)
    (ap damage_of r.reads)

-- ---- rows 3 to 5

segment_so : (r : Framed) (base : ℕ) (es : List Bytes) → segment_in r.1 ≡ Some (base, es) → no_segment r ≡ None
unfolding no_segment
segment_so r base es is = read_segment_whole r base es is

segments_so : (n : ℕ) (rs : List Framed) → AreSegments n (payloads_in rs) → first_of no_segment rs ≡ None
segments_so n [] are = refl
segments_so n (r ∷ rs) are = or_none (no_segment r) (first_of no_segment rs) (segment_so r n are.0 are.1) (segments_so (n + length are.0) rs are.2)

placed_so : (n : ℕ) (rs : List Framed) → AreSegments n (payloads_in rs) → misplaced n rs ≡ None
placed_so n [] are = refl
placed_so n (r ∷ rs) are =
    ap (λ (o : Option (ℕ × List Bytes)). cond (starts_at n o) (misplaced (n + length (entries_of o)) rs) (Some (r.0, Some 1))) are.1
    ∙ ap (λ (t : Bool). cond t (misplaced (n + length are.0) rs) (Some (r.0, Some 1))) (eq-eqb n n refl)
    ∙ placed_so (n + length are.0) rs are.2

sided_so : (base : ℕ) (byte : Option ℕ) (rs : List Framed) → AreSegments 0 (payloads_in rs) → segments_damage base byte (Some rs) ≡ None
sided_so base byte rs are = of_segments base byte rs ∙ or_none _ _ (ap on_side (segments_so 0 rs are)) (ap on_side (placed_so 0 rs are))

-- ---- row 6

entry_read : (e : Entry) → IsEntry e → all_of entry (entry_bytes e) ≡ Ok e
entry_read = all_again entry IsEntry entry_lawful

entry_so : (r : Framed) (e : Entry) → IsEntry e → r.1 ≡ entry_bytes e → no_entry r ≡ None
unfolding no_entry
entry_so r e fits is = read_whole r (all_of entry r.1) e (ap (all_of entry) is ∙ entry_read e fits)

entries_so : (rs : List Framed) (es : List Entry) → Each IsEntry es → payloads_in rs ≡ map entry_bytes es → first_of no_entry rs ≡ None
entries_so [] es each are = refl
entries_so (r ∷ rs) [] each are = absurd (cc are)
entries_so (r ∷ rs) (e ∷ es) each are =
    let first : r.1 ≡ entry_bytes e = cc are in
    let rest : payloads_in rs ≡ map entry_bytes es = cc are in
    or_none (no_entry r) (first_of no_entry rs) (entry_so r e each.0 first) (entries_so rs es each.1 rest)

-- ---- rows 7 and 8

meets_so : (base packed count : ℕ) → base ≤ packed → packed ≤ base + count → meets base packed count ≡ true
meets_so base packed count a b = grind (arith, nat_tests)

differs_so : (g : List Bytes) (rs : List Framed) → take (length g) (payloads_in rs) ≡ g → differs g rs ≡ None
differs_so [] [] is = refl
differs_so [] (r ∷ rs) is = refl
differs_so (x ∷ g) [] is = refl
differs_so (x ∷ g) (r ∷ rs) is =
    let first : r.1 ≡ x = cc is in
    let rest : take (length g) (payloads_in rs) ≡ g = cc is in
    ap (λ (b : Bool). cond b (differs g rs) (Some (r.0, Some 1))) (ap (same x) first ∙ same_self x) ∙ differs_so g rs rest

length-payloads : (rs : List Framed) → length (payloads_in rs) ≡ length rs
length-payloads [] = refl
length-payloads (r ∷ rs) = ap suc (length-payloads rs)

-- what both have is the same
pub both_same : (b : ℕ) (g p h : List Bytes) → Follows b g p h → take (length (drop b g)) p ≡ drop b g
both_same b g p h f =
    let size : b + (length g - b) ≡ length g = omega (arith, f.within) in
    ap (λ (n : ℕ). take n p) (length-drop b g)
    ∙ ap (take (length g - b)) (sym f.behind)
    ∙ sym (drop-take b (length g - b) h)
    ∙ ap (λ (n : ℕ). drop b (take n h)) size
    ∙ ap (drop b) f.front

pub follows_reach : (b : ℕ) (g p h : List Bytes) → Follows b g p h → length g ≤ b + length p
follows_reach b g p h f = omega (arith, ap length f.front, length-take (length g) h, f.count)

joined_so : (base : ℕ) (byte : Option ℕ) (g h : List Bytes) (rs : List Framed) → Joined base g (payloads_in rs) h → meeting_damage base byte g rs ≡ None
unfolding meeting_damage
joined_so base byte g h [] joined = or_none _ _ refl (ap on_log (differs_none (drop base g)))
  where
    differs_none : (l : List Bytes) → differs l [] ≡ None
    differs_none [] = refl
    differs_none (x ∷ l) = refl
joined_so base byte g h (r ∷ rs) joined =
    let size = length-payloads rs in
    let meeting : meets base (length g) (length (r ∷ rs)) ≡ true = meets_so base (length g) (length (r ∷ rs)) joined.within (let reach = follows_reach base g (payloads_in (r ∷ rs)) h joined in omega (arith, reach, size)) in
    or_none _ _
    (ap (λ (t : Bool). on_log (cond t None (Some (10, byte)))) meeting)
    (ap on_log (differs_so (drop base g) (r ∷ rs) (both_same base g (payloads_in (r ∷ rs)) h joined)))

-- ---- entries of the list that are records of the log

each_behind : (n : ℕ) (es : List Entry) → Each IsEntry es → Each IsEntry (drop n es)
each_behind zero es each = each
each_behind (suc n) [] each = each
each_behind (suc n) (e ∷ es) each = each_behind n es each.1

map_behind : (n : ℕ) (es : List Entry) → drop n (map entry_bytes es) ≡ map entry_bytes (drop n es)
map_behind zero es = refl
map_behind (suc n) [] = refl
map_behind (suc n) (e ∷ es) = map_behind n es

in_time_later : (a b : ℕ) (es : List Entry) → a ≤ b → InTime b es → InTime a es
in_time_later a b [] le in_time = tt
in_time_later a b (e ∷ es) le in_time = (omega (arith, le, in_time.0), in_time.1)

in_time_behind : (a n : ℕ) (es : List Entry) → InTime a es → InTime a (drop n es)
in_time_behind a zero es in_time = in_time
in_time_behind a (suc n) [] in_time = tt
in_time_behind a (suc n) (e ∷ es) in_time = in_time_later a e.moment (drop n es) in_time.0 (in_time_behind e.moment n es in_time.1)

-- the entries of a log's records
record LogEntries (es : List Entry) (tail : List Bytes) : Type 0 where
  of_log : List Entry
  each : Each IsEntry of_log
  are : tail ≡ map entry_bytes of_log
  in_time : InTime 0 es → InTime 0 of_log

log_entries : (base : ℕ) (g tail : List Bytes) (es : List Entry) → Each IsEntry es → Joined base g tail (map entry_bytes es) → LogEntries es tail
log_entries base g [] es each joined = record { of_log = []; each = tt; are = refl; in_time = λ given. tt }
log_entries base g (x ∷ p) es each joined = record {
  of_log = drop base es;
  each = each_behind base es each;
  are = sym joined.behind ∙ map_behind base es;
  in_time = λ given. in_time_behind 0 base es given;
}

-- ---- both files

module _ (store log side : List ℕ) (es : List Entry) (long : length store ≡ 16) (each : Each IsEntry es) (o : PairOpens store log side (map entry_bytes es)) where
  abbrev Head : List ℕ
  Head = room_head (edition_of log) (base_bytes log) store

  six_long : length (base_bytes log) ≡ 6
  six_long = six_bytes log store o.tail long o.log_is

  is_head : IsHead (Room store) Head
  is_head = (edition_of log, base_bytes log, o.edition, six_long, refl)

  of_log : journal.OpensAs (Room store) o.tail log
  of_log = journal.opens_log (Room store) Head o.tail log long is_head o.log_is

  begins : (rest : List ℕ) × (log ≡ Head ++ rest)
  begins = opened_begins Head log o.tail o.log_is

  kind : slice_index log 9 ≡ 1
  kind = ap (λ (l : List ℕ). slice_index l 9) begins.1 ∙ room_kind (edition_of log) (base_bytes log) store begins.0

  form : header_damage (take 64 log) ≡ None
  form =
      let front : take 64 log ≡ Head = ap (take 64) begins.1 ∙ take_at Head begins.0 64 (length-room (edition_of log) (base_bytes log) store six_long long) in
      ap header_damage front ∙ journal.form_fits (Room store) Head long is_head

  pub log_whole : log_damage log ≡ None
  log_whole = log_so log of_log.rs form kind of_log.log.reads

  of_store : store_of log ≡ store
  of_store = ap store_of begins.1 ∙ store_there (edition_of log) (base_bytes log) store six_long long begins.0

  the_entries : LogEntries es o.tail
  the_entries = log_entries (base_of log) (packed_in store side) o.tail es each o.joined

  entries_whole : first_of no_entry of_log.rs ≡ None
  entries_whole = entries_so of_log.rs the_entries.of_log the_entries.each (of_log.payloads ∙ the_entries.are)

  meeting_whole : (byte : Option ℕ) (g : List Bytes) → packed_in store side ≡ g → meeting_damage (base_of log) byte g of_log.rs ≡ None
  meeting_whole byte g is =
      joined_so (base_of log) byte g (map entry_bytes es) of_log.rs
      (subst (λ (x : List Bytes). Joined (base_of log) x (payloads_in of_log.rs) (map entry_bytes es)) is
      (subst (λ (p : List Bytes). Joined (base_of log) (packed_in store side) p (map entry_bytes es)) (sym of_log.payloads) o.joined))

  -- rows 2 to 8, by what stands beside the log
  record Beside : Type 0 where
    found : Option (List Framed)
    is : beside side ≡ found
    whole : side_damage store side ≡ None
    segments : segments_damage (base_of log) (slice_get log 10) found ≡ None
    packed : packed_in store side ≡ packed_by (payloads_in (unwrap_or found []))

  bare_so : is_bare side ≡ true → Beside
  bare_so bare = record {
    found = None;
    is = bare_beside side bare;
    whole = bare_whole store side bare;
    segments = bare_zero (base_of log) (slice_get log 10) (o.bare (bare_is side bare));
    packed = bare_packed store side long (bare_is side bare);
  }

  file_so : is_bare side ≡ false → IsSideFile store side → Beside
  file_so file s =
      let r = reads_so (side_head store) side s.segments (length-side store long) s.is in
      record {
        found = Some r.rs;
        is = ap (λ (t : Bool). cond t None (Some (records_in side))) file ∙ ap (λ (l : List Framed). Some l) (records_so side r.rs r.reads);
        whole = side_so store side s.segments long file s.is r;
        segments = sided_so (base_of log) (slice_get log 10) r.rs (subst (AreSegments 0) (sym r.payloads) s.are);
        packed = ap (λ (found : Option (List Bytes)). packed_by (listed found)) s.is ∙ ap packed_by (sym r.payloads);
      }

  stands_beside : Beside
  stands_beside = by_bare (is_bare side) refl
    where
      by_bare : (b : Bool) → is_bare side ≡ b → Beside
      by_bare true bare = bare_so bare
      by_bare false file = elim o.side_is [ inl bare ↦ absurd (file_not_bare side file bare) | inr s ↦ file_so file s ]

  list_so : (rs : List Framed) (b : Beside) → records_in log ≡ of_log.rs → list_damage (base_of log) (slice_get log 10) (records_in log) (beside side) ≡ None
  unfolding list_damage
  list_so rs b are =
      ap (λ (l : List Framed). list_damage (base_of log) (slice_get log 10) l (beside side)) are
      ∙ ap (list_damage (base_of log) (slice_get log 10) of_log.rs) b.is
      ∙ or_none _ _ b.segments (or_none _ _ (ap on_log entries_whole) (meeting_whole (slice_get log 10) (packed_by (payloads_in (unwrap_or b.found []))) b.packed))

  pub undamaged : pair_damage log side ≡ None
  unfolding pair_damage
  undamaged =
      or_none _ _ (ap on_log log_whole)
      (or_none _ _ (ap (λ (s : Bytes). on_side (side_damage s side)) of_store ∙ ap on_side stands_beside.whole)
      (list_so of_log.rs stands_beside (records_so log of_log.rs of_log.log.reads)))

  -- ---- packing

  later_so : (before : ℕ) (rs : List Framed) (ls : List Entry) → Each IsEntry ls → InTime before ls → payloads_in rs ≡ map entry_bytes ls → out_of_order before rs ≡ None
  later_so before [] ls each in_time are = refl
  later_so before (r ∷ rs) [] each in_time are = absurd (cc are)
  later_so before (r ∷ rs) (e ∷ ls) each in_time are =
      let first : r.1 ≡ entry_bytes e = cc are in
      let rest : payloads_in rs ≡ map entry_bytes ls = cc are in
      let read : all_of entry r.1 ≡ Ok e = ap (all_of entry) first ∙ entry_read e each.0 in
      or_none _ _ (row_in_order before r e read in_time.0)
      (ap (λ x. out_of_order (moment_in before x) rs) read ∙ later_so e.moment rs ls each.1 in_time.1 rest)

  pub packable : InTime 0 es → pack_damage log ≡ None
  unfolding pack_damage
  packable in_time =
      or_none _ _ log_whole
      (ap (out_of_order 0) (records_so log of_log.rs of_log.log.reads)
      ∙ later_so 0 of_log.rs the_entries.of_log the_entries.each (the_entries.in_time in_time) (of_log.payloads ∙ the_entries.are))
