-- Where the records of a pair's list stand, and in which file.
use Rattle.std.specs.Prelude.{ℕ, ◌-◌, true, false, List, [], ◌∷◌, ◌++◌, length, drop, map, Option, unwrap_or}
use Rattle.news_types.specs.Names.{Bytes}
use Rattle.news_io.specs.declared.record.Record.{Record}
use Rattle.news_pair.specs.Segments.{segment_in}
use Rattle.news_pair.specs.Pair.{base_of, entries_of}
use Rattle.news_pair.specs.Damage.{Framed, records_in, beside}

-- an entry of the side has the place of its segment's gate
abbrev pub packed_record : ℕ → Bytes → Record
packed_record at bytes = record { at = at; side = true; bytes = bytes }

abbrev pub segment_records : Framed → List Record
segment_records r = map (packed_record r.0) (entries_of (segment_in r.1))

-- the entries of a side's segments, one behind the other
abbrev pub side_records : List Framed → List Record
side_records [] = []
side_records (r ∷ rs) = segment_records r ++ side_records rs

-- a record of the log has the place of its own gate
abbrev pub log_record : Framed → Record
log_record r = record { at = r.0; side = false; bytes = r.1 }

-- behind those of the side, the records of a log with this base that the side does not have
abbrev pub behind : ℕ → List Framed → List Record → List Record
behind base log packed = packed ++ drop (length packed - base) (map log_record log)

abbrev pub all_records : ℕ → List Framed → Option (List Framed) → List Record
all_records base log found = behind base log (side_records (unwrap_or found []))

-- the records of the list of a log and its side
unfoldable pub pair_records : List ℕ → List ℕ → List Record
pair_records log side = all_records (base_of log) (records_in log) (beside side)
