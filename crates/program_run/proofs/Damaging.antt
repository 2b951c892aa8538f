-- The rows of damage, by the readers of the formats.
use Rattle.std.proofs.Common.{◌≡◌, ℕ, ◌+◌, ◌-◌, List, [], ◌∷◌, ◌++◌, length, take, drop, map, cond, eqb, Bool, true, false, Option, Some, None, Result, Ok, Err, refl, sym, ◌∙◌, ap, subst}
use Rattle.std.specs.Prelude.{slice_get, unwrap_or}
use Rattle.std.specs.Option.{option_or, option_map}
use Rattle.std.proofs.lemmas.List.{map-append, drop-map, length-map}
use Rattle.news_types.specs.Names.{Bytes, same}
use Rattle.news_types.specs.declared.entry.Entry.{Entry}
use Rattle.byte_formats.specs.Faults.{IsFaultAt}
use Rattle.byte_formats.specs.Gives.{all_of}
use Rattle.byte_formats.specs.Lawful.{IsBytes}
use Rattle.byte_formats.specs.Places.{IsDeadAt}
use Rattle.byte_formats.proofs.Alls as alls
use Rattle.byte_formats.proofs.Whole as whole
use Rattle.entry_codec.specs.Commands.{entry}
use Rattle.entry_codec.specs.Formed.{IsEntry}
use Rattle.entry_codec.specs.Spelling.{entry_bytes}
use Rattle.entry_codec.proofs.EntryLaws.{entry_lawful}
use Rattle.entry_segments.specs.Answers.{IsWhole}
use Rattle.entry_segments.specs.Reading as read
use Rattle.entry_segments.specs.Segment.{segment, IsSegment}
use Rattle.entry_segments.specs.declared.segment.Segment as of_crate
use Rattle.entry_segments.proofs.SegmentLaws.{segment_sound}
use Rattle.news_io.specs.declared.record.Record.{Record}
use Rattle.news_journal.specs.Log.{Reading, Holding, Broken, reading}
use Rattle.news_journal.specs.Damage.{damage_of}
use Rattle.news_pair.specs.Damage as pair
use Rattle.news_pair.specs.Pair as files
use Rattle.news_pair.specs.Placed as records
use Rattle.news_pair.specs.Segments.{spelled, segment_in}
use Rattle.news_pair.specs.declared.fault.PairFault.{PairFault}
use Rattle.news_pair.specs.declared.fault.PairFault.TheVariants as fault
use Rattle.program_run.specs.Opens.{base_of}
use Rattle.program_run.specs.Damage.{Place, Framed, Segment, Readers, Stored, Damage, InLog, InSide, IsSpelled, log_damage, difference, side_damage, held, records_in, beside, first_of, in_file, bare_base, entries_of, no_segment, starts_at, misplaced, packed_by, no_entry, apart, differs, rows_3_to_8, pair_damage, side_list, behind, placed, bytes_of}
use Rattle.program_run.specs.Damage as top
use Rattle.program_run.specs.Finding.{stop, entry_at, segment_at}
use Rattle.program_run.proofs.Opening.{side_head_is, base_is, segment_is, segment_of}

-- ---- the readers of the formats

stop_none : {A : Type 0} (bytes : Bytes) (r : Result A ℕ) → stop bytes r ≡ None → (x : A) × (r ≡ Ok x)
stop_none bytes (Ok x) is = (x, refl)
stop_none bytes (Err left) is = absurd (cc is)

stop_some : {A : Type 0} (bytes : Bytes) (at : ℕ) (r : Result A ℕ) → stop bytes r ≡ Some at → (left : ℕ) × (r ≡ Err left) × (length bytes - left ≡ at)
stop_some bytes at (Ok x) is = absurd (cc is)
stop_some bytes at (Err left) is = let same : length bytes - left ≡ at = cc in (left, refl, same)

pub the_entry : (bytes : Bytes) → IsBytes bytes → entry_at bytes ≡ None → (e : Entry) × IsEntry e × (bytes ≡ entry_bytes e)
the_entry bytes ib none =
    let r = stop_none bytes (all_of entry bytes) none in
    let t = whole.all_takes entry IsEntry entry_lawful bytes r.0 ib r.1 in
    (r.0, t.0, t.1)

pub no_entry_at : (bytes : Bytes) (at : ℕ) → IsBytes bytes → entry_at bytes ≡ Some at → IsFaultAt entry_bytes IsEntry bytes at
no_entry_at bytes at ib some =
    let r = stop_some bytes at (all_of entry bytes) some in
    subst (IsFaultAt entry_bytes IsEntry bytes) r.2 (whole.all_fault entry IsEntry entry_lawful bytes r.0 ib r.1)

abbrev pub crate_segment : Segment → of_crate.Segment
crate_segment s = record { base = s.0; entries = s.1 }

pub no_segment_at : (bytes : Bytes) (at : ℕ) → IsBytes bytes → segment_at bytes ≡ Some at → IsDeadAt top.spelled IsSpelled bytes at
no_segment_at bytes at ib some =
    let r = stop_some bytes at (all_of read.segment bytes) some in
    let dead = alls.all_fault read.segment IsWhole segment_sound bytes r.0 ib r.1 in
    subst (IsDeadAt top.spelled IsSpelled bytes) r.2 (record {
      within = dead.within;
      here = λ less begins. dead.here less (record { value = crate_segment begins.value; fits = begins.fits; more = begins.more; is = begins.is });
      none = λ s is same. dead.none (crate_segment s) is same;
    })

pub segment_found : (bytes : Bytes) → segment_at bytes ≡ None → (s : ℕ × List Bytes) × (segment_in bytes ≡ Some s)
unfolding segment_in
segment_found bytes none =
    let r = stop_none bytes (all_of read.segment bytes) none in
    ((r.0.base, map entry_bytes r.0.entries), ap spelled r.1)

pub segment_again : (n : ℕ) (es : List Entry) → IsSegment n es → (segment_at (segment n es) ≡ None) × (segment_in (segment n es) ≡ Some (n, map entry_bytes es))
segment_again n es is = (
  ap (stop (segment n es)) (alls.all_again read.segment IsWhole segment_sound (crate_segment (n, es)) is),
  segment_is n es is,
)

abbrev pub the_readers : Readers
the_readers = record {
  entry = entry_at;
  entries = the_entry;
  no_entries = no_entry_at;
  segment_place = segment_at;
  no_segments = no_segment_at;
  segment_in = segment_in;
  found = segment_found;
  segments = segment_of;
  again = segment_again;
}

-- ---- both kinds of damage

abbrev pub turned : Damage → PairFault
turned (InLog place) = fault.Damaged place.0 place.1
turned (InSide place) = fault.DamagedSide place.0 place.1

or_behind : (a b c : Option PairFault) → option_or (option_or a b) c ≡ option_or a (option_or b c)
or_behind (Some d) b c = refl
or_behind None b c = refl

on_log_is : (found : Option Place) → pair.on_log found ≡ option_map turned (option_map InLog found)
on_log_is None = refl
on_log_is (Some place) = refl

-- ---- the rows

difference_is : (place : ℕ) (head file : List ℕ) → pair.difference place head file ≡ difference place head file
unfolding difference pair.difference
difference_is place [] file = refl
difference_is place (x ∷ xs) [] = refl
difference_is place (x ∷ xs) (b ∷ file) = ap (λ (more : Option Place). cond (eqb x b) more (Some (place, Some b))) (difference_is (place + 1) xs file)

log_damage_is : (file : List ℕ) → pair.log_damage file ≡ log_damage file
unfolding log_damage pair.log_damage
log_damage_is file = refl

side_damage_is : (store : Bytes) (file : List ℕ) → pair.side_damage store file ≡ side_damage store file
unfolding side_damage pair.side_damage
side_damage_is store file =
    ap (λ (found : Option Place). cond (pair.is_bare file) None (option_or found (damage_of (reading (length file) 64 (drop 64 file)))))
    (difference_is 0 (files.side_head store) file ∙ ap (λ (head : List ℕ). difference 0 head file) (sym (side_head_is store)))

held_is : (r : Reading) → pair.held r ≡ held r
held_is (Holding rs) = refl
held_is (Broken at found) = refl

records_are : (file : List ℕ) → pair.records_in file ≡ records_in file
unfolding records_in pair.records_in
records_are file = held_is (reading (length file) 64 (drop 64 file))

beside_is : (side : List ℕ) → pair.beside side ≡ beside side
beside_is side = ap (λ (rs : List Framed). cond (pair.is_bare side) None (Some rs)) (records_are side)

first_is : (f g : Framed → Option Place) → ((r : Framed) → f r ≡ g r) → (rs : List Framed) → pair.first_of f rs ≡ first_of g rs
first_is f g each [] = refl
first_is f g each (r ∷ rs) = ap (λ (found : Option Place). option_or found (pair.first_of f rs)) (each r) ∙ ap (option_or (g r)) (first_is f g each rs)

stopped_is : {A : Type 0} (r : Framed) (found : Result A ℕ) → pair.stopped_at r found ≡ in_file r (stop r.1 found)
stopped_is r (Ok x) = refl
stopped_is r (Err left) = refl

no_segment_is : (r : Framed) → pair.no_segment r ≡ no_segment the_readers r
unfolding pair.no_segment
no_segment_is r = stopped_is r (all_of read.segment r.1)

no_entry_is : (r : Framed) → pair.no_entry r ≡ no_entry the_readers r
unfolding pair.no_entry
no_entry_is r = stopped_is r (all_of entry r.1)

bare_base_is : (base : ℕ) (byte : Option ℕ) (found : Option (List Framed)) → pair.bare_base base byte found ≡ bare_base base byte found
bare_base_is base byte None = refl
bare_base_is base byte (Some rs) = refl

entries_are : (found : Option (ℕ × List Bytes)) → files.entries_of found ≡ entries_of found
entries_are None = refl
entries_are (Some s) = refl

starts_is : (n : ℕ) (found : Option (ℕ × List Bytes)) → pair.starts_at n found ≡ starts_at n found
starts_is n None = refl
starts_is n (Some s) = refl

misplaced_is : (n : ℕ) (rs : List Framed) → pair.misplaced n rs ≡ misplaced the_readers n rs
misplaced_is n [] = refl
misplaced_is n (r ∷ rs) =
    ap (λ (b : Bool). cond b (pair.misplaced (n + length (files.entries_of (segment_in r.1))) rs) (Some (r.0, Some 1))) (starts_is n (segment_in r.1))
    ∙ ap (λ (l : List Bytes). cond (starts_at n (segment_in r.1)) (pair.misplaced (n + length l) rs) (Some (r.0, Some 1))) (entries_are (segment_in r.1))
    ∙ ap (λ (found : Option Place). cond (starts_at n (segment_in r.1)) found (Some (r.0, Some 1))) (misplaced_is (n + length (entries_of (segment_in r.1))) rs)

packed_is : (rs : List Framed) → files.packed_by (pair.payloads_in rs) ≡ packed_by the_readers rs
packed_is [] = refl
packed_is (r ∷ rs) = ap (λ (l : List Bytes). l ++ files.packed_by (pair.payloads_in rs)) (entries_are (segment_in r.1)) ∙ ap (λ (l : List Bytes). entries_of (segment_in r.1) ++ l) (packed_is rs)

apart_is : (base : ℕ) (byte : Option ℕ) (packed : ℕ) (rs : List Framed) → pair.apart base byte packed rs ≡ apart base byte packed rs
apart_is base byte packed [] = refl
apart_is base byte packed (r ∷ rs) = refl

differs_is : (packed : List Bytes) (rs : List Framed) → pair.differs packed rs ≡ differs packed rs
differs_is [] [] = refl
differs_is [] (r ∷ rs) = refl
differs_is (x ∷ packed) [] = refl
differs_is (x ∷ packed) (r ∷ rs) = ap (λ (found : Option Place). cond (same x r.1) found (Some (r.0, Some 1))) (differs_is packed rs)

-- ---- all of them

log_first : (found found' : Option Place) (rest : Option PairFault) (rest' : Option Damage) → found ≡ found' → rest ≡ option_map turned rest' → option_or (pair.on_log found) rest ≡ option_map turned (option_or (option_map InLog found') rest')
log_first None None rest rest' same others = others
log_first None (Some y) rest rest' same others = absurd (cc same)
log_first (Some x) None rest rest' same others = absurd (cc same)
log_first (Some x) (Some y) rest rest' same others = ap (λ (found : Option Place). option_or (pair.on_log found) None) same

side_first : (found found' : Option Place) (rest : Option PairFault) (rest' : Option Damage) → found ≡ found' → rest ≡ option_map turned rest' → option_or (pair.on_side found) rest ≡ option_map turned (option_or (option_map InSide found') rest')
side_first None None rest rest' same others = others
side_first None (Some y) rest rest' same others = absurd (cc same)
side_first (Some x) None rest rest' same others = absurd (cc same)
side_first (Some x) (Some y) rest rest' same others = ap (λ (found : Option Place). option_or (pair.on_side found) None) same

log_last : (found found' : Option Place) → found ≡ found' → pair.on_log found ≡ option_map turned (option_map InLog found')
log_last found found' same = ap pair.on_log same ∙ on_log_is found'

module _ (base : ℕ) (byte : Option ℕ) (log : List Framed) (side : Option (List Framed)) where
  abbrev segments : List Framed
  segments = unwrap_or side []

  abbrev was_packed : List Bytes
  was_packed = files.packed_by (pair.payloads_in segments)

  abbrev now_packed : List Bytes
  now_packed = packed_by the_readers segments

  abbrev row_7_on : Option Damage
  row_7_on = option_or (option_map InLog (apart base byte (length now_packed) log)) (option_map InLog (differs (drop base now_packed) log))

  meeting_is : pair.meeting_damage base byte was_packed log ≡ option_map turned row_7_on
  unfolding pair.meeting_damage
  meeting_is =
      log_first (pair.apart base byte (length was_packed) log) (apart base byte (length now_packed) log) (pair.on_log (pair.differs (drop base was_packed) log)) (option_map InLog (differs (drop base now_packed) log))
      (ap (λ (l : List Bytes). pair.apart base byte (length l) log) (packed_is segments) ∙ apart_is base byte (length now_packed) log)
      (log_last (pair.differs (drop base was_packed) log) (differs (drop base now_packed) log) (ap (λ (l : List Bytes). pair.differs (drop base l) log) (packed_is segments) ∙ differs_is (drop base now_packed) log))

  abbrev behind_segments : Option PairFault
  behind_segments = option_or (pair.on_log (pair.first_of pair.no_entry log)) (pair.meeting_damage base byte was_packed log)

  abbrev row_6_on : Option Damage
  row_6_on = option_or (option_map InLog (first_of (no_entry the_readers) log)) row_7_on

  rows_behind : behind_segments ≡ option_map turned row_6_on
  rows_behind = log_first (pair.first_of pair.no_entry log) (first_of (no_entry the_readers) log) (pair.meeting_damage base byte was_packed log) row_7_on (first_is pair.no_entry (no_entry the_readers) no_entry_is log) meeting_is

  abbrev row_5_on : Option Damage
  row_5_on = option_or (option_map InSide (misplaced the_readers 0 segments)) row_6_on

  abbrev row_4_on : Option Damage
  row_4_on = option_or (option_map InSide (first_of (no_segment the_readers) segments)) row_5_on

  rows_are : pair.list_damage base byte log side ≡ option_map turned (rows_3_to_8 the_readers base byte log side)
  unfolding pair.list_damage pair.segments_damage
  rows_are =
      let bare : Option PairFault = pair.on_log (pair.bare_base base byte side) in
      let no_segments : Option PairFault = pair.on_side (pair.first_of pair.no_segment segments) in
      let wrong : Option PairFault = pair.on_side (pair.misplaced 0 segments) in
      or_behind bare (option_or no_segments wrong) behind_segments
      ∙ ap (option_or bare) (or_behind no_segments wrong behind_segments)
      ∙ log_first (pair.bare_base base byte side) (bare_base base byte side) (option_or no_segments (option_or wrong behind_segments)) row_4_on (bare_base_is base byte side)
      (side_first (pair.first_of pair.no_segment segments) (first_of (no_segment the_readers) segments) (option_or wrong behind_segments) row_5_on (first_is pair.no_segment (no_segment the_readers) no_segment_is segments)
      (side_first (pair.misplaced 0 segments) (misplaced the_readers 0 segments) behind_segments row_6_on (misplaced_is 0 segments) rows_behind))

pub damage_is : (log side : List ℕ) → pair.pair_damage log side ≡ option_map turned (pair_damage the_readers log side)
unfolding pair.pair_damage pair_damage
damage_is log side =
    let store : Bytes = take 16 (drop 16 log) in
    let byte : Option ℕ = slice_get log 10 in
    let rows : Option Damage = rows_3_to_8 the_readers (base_of log) byte (records_in log) (beside side) in
    let list : Option PairFault = pair.list_damage (files.base_of log) byte (pair.records_in log) (pair.beside side) in
    log_first (pair.log_damage log) (log_damage log) (option_or (pair.on_side (pair.side_damage store side)) list) (option_or (option_map InSide (side_damage store side)) rows) (log_damage_is log)
    (side_first (pair.side_damage store side) (side_damage store side) list rows (side_damage_is store side)
    (ap (λ (n : ℕ). pair.list_damage n byte (pair.records_in log) (pair.beside side)) (sym (base_is log))
    ∙ ap (λ (rs : List Framed). pair.list_damage (base_of log) byte rs (pair.beside side)) (records_are log)
    ∙ ap (λ (found : Option (List Framed)). pair.list_damage (base_of log) byte (records_in log) found) (beside_is side)
    ∙ rows_are (base_of log) byte (records_in log) (beside side)))

-- ---- where the records stand

abbrev pub stored_of : Record → Stored
stored_of r = (r.side, (r.at, r.bytes))

segment_records_are : (at : ℕ) (ps : List Bytes) → map stored_of (map (records.packed_record at) ps) ≡ map (λ (p : Bytes). (true, (at, p))) ps
segment_records_are at [] = refl
segment_records_are at (p ∷ ps) = ap (λ (l : List Stored). (true, (at, p)) ∷ l) (segment_records_are at ps)

side_list_is : (rs : List Framed) → map stored_of (records.side_records rs) ≡ side_list the_readers rs
side_list_is [] = refl
side_list_is (r ∷ rs) =
    map-append stored_of (records.segment_records r) (records.side_records rs)
    ∙ ap (λ (l : List Stored). l ++ map stored_of (records.side_records rs)) (segment_records_are r.0 (files.entries_of (segment_in r.1)) ∙ ap (λ (ps : List Bytes). map (λ (p : Bytes). (true, (r.0, p))) ps) (entries_are (segment_in r.1)))
    ∙ ap (λ (l : List Stored). map (λ (p : Bytes). (true, (r.0, p))) (entries_of (segment_in r.1)) ++ l) (side_list_is rs)

log_records_are : (rs : List Framed) → map stored_of (map records.log_record rs) ≡ map (λ (x : Framed). (false, x)) rs
log_records_are [] = refl
log_records_are (r ∷ rs) = ap (λ (l : List Stored). (false, r) ∷ l) (log_records_are rs)

behind_is : (base : ℕ) (log : List Framed) (packed : List Record) → map stored_of (records.behind base log packed) ≡ behind base log (map stored_of packed)
behind_is base log packed =
    map-append stored_of packed (drop (length packed - base) (map records.log_record log))
    ∙ ap (λ (l : List Stored). map stored_of packed ++ l)
    (sym (drop-map stored_of (length packed - base) (map records.log_record log))
    ∙ ap (drop (length packed - base)) (log_records_are log)
    ∙ ap (λ (n : ℕ). drop (n - base) (map (λ (x : Framed). (false, x)) log)) (sym (length-map packed stored_of)))

pub placed_is : (log side : List ℕ) → map stored_of (records.pair_records log side) ≡ placed the_readers log side
unfolding records.pair_records placed
placed_is log side =
    behind_is (files.base_of log) (pair.records_in log) (records.side_records (unwrap_or (pair.beside side) []))
    ∙ ap (behind (files.base_of log) (pair.records_in log)) (side_list_is (unwrap_or (pair.beside side) []))
    ∙ ap (λ (n : ℕ). behind n (pair.records_in log) (side_list the_readers (unwrap_or (pair.beside side) []))) (sym (base_is log))
    ∙ ap (λ (rs : List Framed). behind (base_of log) rs (side_list the_readers (unwrap_or (pair.beside side) []))) (records_are log)
    ∙ ap (λ (found : Option (List Framed)). behind (base_of log) (records_in log) (side_list the_readers (unwrap_or found []))) (beside_is side)
