-- Where two files are no pair: the first row that holds, of those below in this order.
use Rattle.std.specs.Prelude.{◌≡◌, ℕ, ◌+◌, ◌-◌, List, [], ◌∷◌, length, take, drop, map, slice_index, slice_get, Bool, false, ◌&&◌, ◌||◌, not, ◌==◌, nat_le, nat_lt, if◌then◌else◌, Option, Some, None, Result, Ok, Err, unwrap_or}
use Rattle.std.specs.Option.{option_or, option_map}
use Rattle.news_types.specs.Names.{Bytes, same}
use Rattle.byte_formats.specs.Gives.{all_of}
use Rattle.entry_codec.specs.Commands.{entry}
use Rattle.entry_segments.specs.Reading.{segment}
use Rattle.news_journal.specs.Log.{Reading, Holding, Broken, reading}
use Rattle.news_journal.specs.Damage.{header_damage, damage_of}
use Rattle.news_pair.specs.Segments.{segment_in}
use Rattle.news_pair.specs.Pair.{side_head, base_of, entries_of, packed_by}
use Rattle.news_pair.specs.declared.fault.PairFault.{PairFault}
use Rattle.news_pair.specs.declared.fault.PairFault.TheVariants.{Damaged, DamagedSide}

-- a place with the byte there, or with none where the bytes end before it
abbrev pub Place : Type 0
Place = ℕ × Option ℕ

-- a record: the place of its gate, and its payload
abbrev pub Framed : Type 0
Framed = ℕ × Bytes

-- ---- 1: the log is no room's log

-- another kind than a room's shows a header by its kind
abbrev pub other_kind : ℕ → Option Place
other_kind kind = if kind == 1 then None else Some (9, Some kind)

unfoldable pub log_damage : List ℕ → Option Place
log_damage file = option_or (header_damage (take 64 file)) (option_or (other_kind (slice_index file 9)) (damage_of (reading (length file) 64 (drop 64 file))))

-- ---- 2: the side stands for segments, and is no side of the store

abbrev pub is_bare : List ℕ → Bool
is_bare side = nat_lt (length side) 65 || not (slice_index side 0 == 78)

-- the first of these bytes that is missing or another in a file that is read from this place on
unfoldable pub difference : ℕ → List ℕ → List ℕ → Option Place
difference place [] bytes = None
difference place (x ∷ xs) [] = Some (place, None)
difference place (x ∷ xs) (b ∷ bytes) = if x == b then difference (place + 1) xs bytes else Some (place, Some b)

unfoldable pub side_damage : Bytes → List ℕ → Option Place
side_damage store file = if is_bare file then None else option_or (difference 0 (side_head store) file) (damage_of (reading (length file) 64 (drop 64 file)))

-- ---- records

abbrev pub held : Reading → List Framed
held (Holding rs) = rs
held (Broken at found) = []

-- the records behind a header
unfoldable pub records_in : List ℕ → List Framed
records_in file = held (reading (length file) 64 (drop 64 file))

-- those of a side, or nothing where it stands for no segment
abbrev pub beside : List ℕ → Option (List Framed)
beside side = if is_bare side then None else Some (records_in side)

-- the first of all that is found in them, one by one
abbrev pub first_of : (Framed → Option Place) → List Framed → Option Place
first_of f [] = None
first_of f (r ∷ rs) = option_or (f r) (first_of f rs)

-- the place in a payload where reading it stops
abbrev pub stopped_at : {A : Type 0} → Framed → Result A ℕ → Option Place
stopped_at r (Ok x) = None
stopped_at r (Err left) = Some (r.0 + 5 + (length r.1 - left), slice_get r.1 (length r.1 - left))

-- ---- 3: the base is not 0 beside a side that stands for no segment

abbrev pub bare_base : ℕ → Option ℕ → Option (List Framed) → Option Place
bare_base base byte (Some segments) = None
bare_base base byte None = if base == 0 then None else Some (10, byte)

-- ---- 4: a payload of the side is no segment

unfoldable pub no_segment : Framed → Option Place
no_segment r = stopped_at r (all_of segment r.1)

-- ---- 5: a segment's base is not the number of the entries before it

abbrev pub starts_at : ℕ → Option (ℕ × List Bytes) → Bool
starts_at n None = false
starts_at n (Some s) = s.0 == n

abbrev pub misplaced : ℕ → List Framed → Option Place
misplaced n [] = None
misplaced n (r ∷ rs) = if starts_at n (segment_in r.1) then misplaced (n + length (entries_of (segment_in r.1))) rs else Some (r.0, Some 1)

-- ---- 6: a payload of the log is no entry

unfoldable pub no_entry : Framed → Option Place
no_entry r = stopped_at r (all_of entry r.1)

-- ---- 7: entries are missing between the side and the log, or the log ends before the side

abbrev pub meets : ℕ → ℕ → ℕ → Bool
meets base packed count = nat_le base packed && nat_le packed (base + count)

abbrev pub apart : ℕ → Option ℕ → ℕ → List Framed → Option Place
apart base byte packed [] = None
apart base byte packed (r ∷ rs) = if meets base packed (length (r ∷ rs)) then None else Some (10, byte)

-- ---- 8: an entry that both files have differs

abbrev pub differs : List Bytes → List Framed → Option Place
differs (x ∷ xs) (r ∷ rs) = if same x r.1 then differs xs rs else Some (r.0, Some 1)
differs _ _ = None

-- ---- all rows

abbrev pub on_log : Option Place → Option PairFault
on_log found = option_map (λ (p : Place). Damaged p.0 p.1) found

abbrev pub on_side : Option Place → Option PairFault
on_side found = option_map (λ (p : Place). DamagedSide p.0 p.1) found

-- rows 3 to 5, of a log with this base, whose first byte is this one, and of what stands beside it
unfoldable pub segments_damage : ℕ → Option ℕ → Option (List Framed) → Option PairFault
segments_damage base byte found =
    option_or (on_log (bare_base base byte found)) (option_or (on_side (first_of no_segment (unwrap_or found []))) (on_side (misplaced 0 (unwrap_or found []))))

-- rows 7 and 8, where the side has these entries
unfoldable pub meeting_damage : ℕ → Option ℕ → List Bytes → List Framed → Option PairFault
meeting_damage base byte packed rs = option_or (on_log (apart base byte (length packed) rs)) (on_log (differs (drop base packed) rs))

abbrev pub payloads_in : List Framed → List Bytes
payloads_in rs = map (λ (r : Framed). r.1) rs

-- rows 3 to 8
unfoldable pub list_damage : ℕ → Option ℕ → List Framed → Option (List Framed) → Option PairFault
list_damage base byte rs found =
    option_or (segments_damage base byte found) (option_or (on_log (first_of no_entry rs)) (meeting_damage base byte (packed_by (payloads_in (unwrap_or found []))) rs))

abbrev pub store_of : List ℕ → Bytes
store_of log = take 16 (drop 16 log)

-- what shows that a log and its side are no pair, or nothing where they are one
unfoldable pub pair_damage : List ℕ → List ℕ → Option PairFault
pair_damage log side =
    option_or (on_log (log_damage log)) (option_or (on_side (side_damage (store_of log) side)) (list_damage (base_of log) (slice_get log 10) (records_in log) (beside side)))

-- ---- answers

-- Where damage is answered, it is this.
abbrev pub IsPairDamage : Option PairFault → PairFault → Type 0
IsPairDamage found (Damaged at byte) = found ≡ Some (Damaged at byte)
IsPairDamage found (DamagedSide at byte) = found ≡ Some (DamagedSide at byte)
IsPairDamage found e = Unit {0}

-- Ok is answered only where nothing was found, and damage only where it is what was found.
abbrev pub Judged : {T : Type 0} → Option PairFault → Result T PairFault → Type 0
Judged found (Ok x) = found ≡ None
Judged found (Err e) = IsPairDamage found e
