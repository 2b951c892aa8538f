-- Where two files are no store of a list: the first row that holds, of those below in this order.
use Rattle.std.specs.Prelude.{◌≡◌, ◌⊎◌, ℕ, ◌+◌, ◌-◌, List, [], ◌∷◌, ◌++◌, length, take, drop, map, slice_index, slice_get, Bool, false, true, ◌&&◌, ◌||◌, not, ◌==◌, nat_le, nat_lt, if◌then◌else◌, Option, Some, None, unwrap_or}
use Rattle.std.specs.Option.{option_or, option_map}
use Rattle.news_types.specs.declared.entry.Entry.{Entry}
use Rattle.news_types.specs.Names.{Bytes, same}
use Rattle.news_types.specs.History.{History}
use Rattle.byte_formats.specs.Faults.{IsFaultAt}
use Rattle.byte_formats.specs.Lawful.{IsBytes}
use Rattle.byte_formats.specs.Places.{IsDeadAt}
use Rattle.entry_codec.specs.Spelling.{entry_bytes}
use Rattle.entry_codec.specs.Formed.{IsEntry}
use Rattle.entry_segments.specs.Segment.{segment, IsSegment}
use Rattle.news_journal.specs.Log.{Reading, Holding, Broken, reading}
use Rattle.news_journal.specs.Damage.{header_damage, damage_of}
use Rattle.news_room.specs.Log.{IsStored}
use Rattle.store_files.specs.Kinds.{IsOther}
use Rattle.program_run.specs.Opens.{payloads, side_head, base_of, Holds}

-- a place with the byte there, or with none where the bytes end before it
abbrev pub Place : Type 0
Place = ℕ × Option ℕ

-- a record: the place of its gate, and its payload
abbrev pub Framed : Type 0
Framed = ℕ × Bytes

-- ---- segments with their places

-- how many entries stand before it, and its own
abbrev pub Segment : Type 0
Segment = ℕ × List Entry

abbrev pub spelled : Segment → List ℕ
spelled s = segment s.0 s.1

abbrev pub IsSpelled : Segment → Type 0
IsSpelled s = IsSegment s.0 s.1

-- ---- readers of payloads: any that do what the spelling says

-- They find nothing in the bytes of an entry, and of others the first byte with which no entry goes on; in those that
-- are no segment a place up to and with which none goes on; and of a segment how many entries stand before it, and the
-- payloads of its own.
pub record Readers : Type 0 where
  pub entry : Bytes → Option ℕ
  pub entries : (bytes : Bytes) → IsBytes bytes → entry bytes ≡ None
      → (e : Entry) × IsEntry e × (bytes ≡ entry_bytes e)
  pub no_entries : (bytes : Bytes) (at : ℕ) → IsBytes bytes → entry bytes ≡ Some at
      → IsFaultAt entry_bytes IsEntry bytes at
  pub segment_place : Bytes → Option ℕ
  pub no_segments : (bytes : Bytes) (at : ℕ) → IsBytes bytes → segment_place bytes ≡ Some at
      → IsDeadAt spelled IsSpelled bytes at
  pub segment_in : Bytes → Option (ℕ × List Bytes)
  pub found : (bytes : Bytes) → segment_place bytes ≡ None → (s : ℕ × List Bytes) × (segment_in bytes ≡ Some s)
  pub segments : (bytes : Bytes) (n : ℕ) (ps : List Bytes) → IsBytes bytes → segment_in bytes ≡ Some (n, ps)
      → (es : List Entry) × IsSegment n es × (bytes ≡ segment n es) × (ps ≡ map entry_bytes es)
  pub again : (n : ℕ) (es : List Entry) → IsSegment n es
      → (segment_place (segment n es) ≡ None) × (segment_in (segment n es) ≡ Some (n, map entry_bytes es))

-- what they find, and in a segment
pub record Finders : Type 0 where
  pub entry : Bytes → Option ℕ
  pub segment_place : Bytes → Option ℕ
  pub segment_in : Bytes → Option (ℕ × List Bytes)

abbrev pub finders : Readers → Finders
finders r = record { entry = r.entry; segment_place = r.segment_place; segment_in = r.segment_in }

-- behind a header the records are none
abbrev pub records_damage : List ℕ → Option Place
records_damage file = damage_of (reading (length file) 64 (drop 64 file))

-- ---- 1: the log is no room's log

-- another kind than a room's shows a header by its kind
abbrev pub other_kind : ℕ → Option Place
other_kind kind = if kind == 1 then None else Some (9, Some kind)

unfoldable pub log_damage : List ℕ → Option Place
log_damage file =
    option_or (header_damage (take 64 file)) (option_or (other_kind (slice_index file 9)) (records_damage file))

-- ---- 2: the side stands for segments, and is no side of the store

abbrev pub is_bare : List ℕ → Bool
is_bare side = nat_lt (length side) 65 || not (slice_index side 0 == 78)

-- the first of these bytes that is missing or another in a file that is read from this place on
unfoldable pub difference : ℕ → List ℕ → List ℕ → Option Place
difference place [] bytes = None
difference place (x ∷ xs) [] = Some (place, None)
difference place (x ∷ xs) (b ∷ bytes) = if x == b then difference (place + 1) xs bytes else Some (place, Some b)

unfoldable pub side_damage : Bytes → List ℕ → Option Place
side_damage store file =
    if is_bare file then None else option_or (difference 0 (side_head store) file) (records_damage file)

-- ---- records

abbrev pub held : Reading → List Framed
held (Holding rs) = rs
held (Broken at found) = []

-- the records behind a header
unfoldable pub records_in : List ℕ → List Framed
records_in file = held (reading (length file) 64 (drop 64 file))

-- those of a side, or nothing where it stands for no segment
abbrev pub beside : List ℕ → Option (List Framed)
beside side = if is_bare side then None else Some (records_in side)

-- the first of all that is found in them, one by one
abbrev pub first_of : (Framed → Option Place) → List Framed → Option Place
first_of f [] = None
first_of f (r ∷ rs) = option_or (f r) (first_of f rs)

-- the place in a file of a place in a record's payload
abbrev pub in_file : Framed → Option ℕ → Option Place
in_file r None = None
in_file r (Some at) = Some (r.0 + 5 + at, slice_get r.1 at)

-- ---- 3: the base is not 0 beside a side that stands for no segment

abbrev pub bare_base : ℕ → Option ℕ → Option (List Framed) → Option Place
bare_base base byte (Some segments) = None
bare_base base byte None = if base == 0 then None else Some (10, byte)

abbrev pub entries_of : Option (ℕ × List Bytes) → List Bytes
entries_of (Some s) = s.1
entries_of None = []

abbrev pub starts_at : ℕ → Option (ℕ × List Bytes) → Bool
starts_at n None = false
starts_at n (Some s) = s.0 == n

module _ (r : Readers) where
  -- ---- 4: a payload of the side is no segment

  abbrev pub no_segment : Framed → Option Place
  no_segment x = in_file x (r.segment_place x.1)

  -- ---- 5: a segment's base is not the number of the entries before it

  abbrev pub misplaced : ℕ → List Framed → Option Place
  misplaced n [] = None
  misplaced n (x ∷ xs) =
      if starts_at n (r.segment_in x.1) then misplaced (n + length (entries_of (r.segment_in x.1))) xs
      else Some (x.0, Some 1)

  abbrev pub packed_by : List Framed → List Bytes
  packed_by [] = []
  packed_by (x ∷ xs) = entries_of (r.segment_in x.1) ++ packed_by xs

  -- ---- 6: a payload of the log is no entry

  abbrev pub no_entry : Framed → Option Place
  no_entry x = in_file x (r.entry x.1)

-- ---- 7: entries are missing between the side and the log, or the log ends before the side

abbrev pub meets : ℕ → ℕ → ℕ → Bool
meets base packed count = nat_le base packed && nat_le packed (base + count)

abbrev pub apart : ℕ → Option ℕ → ℕ → List Framed → Option Place
apart base byte packed [] = None
apart base byte packed (r ∷ rs) = if meets base packed (length (r ∷ rs)) then None else Some (10, byte)

-- ---- 8: an entry that both files have differs

abbrev pub differs : List Bytes → List Framed → Option Place
differs (x ∷ xs) (r ∷ rs) = if same x r.1 then differs xs rs else Some (r.0, Some 1)
differs _ _ = None

-- ---- all rows: in the log, or in the side

pub data Damage : Type 0 where
  InLog : Place → Damage
  InSide : Place → Damage

module _ (r : Readers) where
  abbrev pub rows_3_to_8 : ℕ → Option ℕ → List Framed → Option (List Framed) → Option Damage
  rows_3_to_8 base byte log side =
      option_or (option_map InLog (bare_base base byte side))
      (option_or (option_map InSide (first_of (no_segment r) (unwrap_or side [])))
      (option_or (option_map InSide (misplaced r 0 (unwrap_or side [])))
      (option_or (option_map InLog (first_of (no_entry r) log))
      (option_or (option_map InLog (apart base byte (length (packed_by r (unwrap_or side []))) log))
      (option_map InLog (differs (drop base (packed_by r (unwrap_or side []))) log))))))

  unfoldable pub pair_damage : List ℕ → List ℕ → Option Damage
  pair_damage log side =
      option_or (option_map InLog (log_damage log))
      (option_or (option_map InSide (side_damage (take 16 (drop 16 log)) side))
      (rows_3_to_8 (base_of log) (slice_get log 10) (records_in log) (beside side)))

-- ---- entries that may not follow

-- where the records of the list stand: those of the side at their segment's gate, and behind them those of the log that
-- the side does not have; each with whether it is the side's
abbrev pub Stored : Type 0
Stored = Bool × Framed

abbrev pub behind : ℕ → List Framed → List Stored → List Stored
behind base log packed = packed ++ drop (length packed - base) (map (λ (x : Framed). (false, x)) log)

module _ (r : Readers) where
  abbrev pub side_list : List Framed → List Stored
  side_list [] = []
  side_list (x ∷ xs) = map (λ (p : Bytes). (true, (x.0, p))) (entries_of (r.segment_in x.1)) ++ side_list xs

  unfoldable pub placed : List ℕ → List ℕ → List Stored
  placed log side = behind (base_of log) (records_in log) (side_list (unwrap_or (beside side) []))

abbrev pub bytes_of : Stored → Bytes
bytes_of r = r.1.1

-- the payload is no entry: the place of the first byte that no entry goes on with, in a file whose record begins there
pub record IsNoEntry (r : Stored) (at : ℕ) (found : Option ℕ) : Type 0 where
  pub place : ℕ
  pub fault : IsFaultAt entry_bytes IsEntry (bytes_of r) place
  pub at_is : at ≡ r.1.0 + 5 + place
  pub found_is : found ≡ slice_get (bytes_of r) place

-- the entry may not follow the list: the place of the record's gate, which is 1
pub record IsUnlawful (list : History) (r : Stored) (at : ℕ) (found : Option ℕ) : Type 0 where
  pub next : Entry
  pub is : bytes_of r ≡ entry_bytes next
  pub entry : IsEntry next
  pub unlawful : IsStored (next ∷ list) → ⊥
  pub at_is : at ≡ r.1.0
  pub found_is : found ≡ Some 1

-- the first of these records that is no entry, or one that may not follow the list of those before it, stands in the
-- side or in the log
pub record HasBadRecord (records : List Stored) (in_side : Bool) (at : ℕ) (found : Option ℕ) : Type 0 where
  pub before : List Stored
  pub here : Stored
  pub later : List Stored
  pub are : records ≡ before ++ here ∷ later
  pub list : History
  pub opens : map bytes_of before ≡ payloads list
  pub stored : IsStored list
  pub file_is : here.0 ≡ in_side
  pub damage : IsNoEntry here at found ⊎ IsUnlawful list here at found

-- no row holds, but what the files hold is no list
pub record HasNoList (r : Readers) (log side : List ℕ) (in_side : Bool) (at : ℕ) (found : Option ℕ) : Type 0 where
  pub whole : pair_damage r log side ≡ None
  pub store : Bytes
  pub long : length store ≡ 16
  pub holds : IsBytes side → Holds log side store (map bytes_of (placed r log side))
  pub bad : HasBadRecord (placed r log side) in_side at found

-- ---- the first damage

abbrev pub in_file_of : Bool → Place → Damage
in_file_of true place = InSide place
in_file_of false place = InLog place

-- the files are no other's, and to the readers that find this their first damage is there, in the side or in the log: of
-- their bytes, and else of their list
pub record IsDamaged (find : Finders) (log side : List ℕ) (in_side : Bool) (at : ℕ) (found : Option ℕ) : Type 0 where
  pub own : IsOther log side → ⊥
  pub readers : Readers
  pub find_is : finders readers ≡ find
  pub shown : (pair_damage readers log side ≡ Some (in_file_of in_side (at, found)))
      ⊎ HasNoList readers log side in_side at found
