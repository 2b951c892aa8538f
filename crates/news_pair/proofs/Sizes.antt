-- How many entries files of some size have.
use Rattle.std.proofs.Common.{◌≡◌, ℕ, ◌-◌, ◌*◌, ◌≤◌, ◌<◌, ◌^◌, List, [], ◌∷◌, ◌++◌, ◌+◌, length, drop, Option, Some, None, sym, subst, arith, length-append, length-drop}
use Rattle.std.specs.Prelude.{All, IfSome}
use Rattle.std.specs.Int.{w32, to_be_bytes}
use Rattle.std.specs.List.{flat_map}
use Rattle.std.proofs.lemmas.List.Elements.{All-append, All-drop}
use Rattle.news_types.specs.Names.{Bytes}
use Rattle.news_types.specs.declared.entry.Entry.{Entry}
use Rattle.news_io.specs.declared.record.Record.{Record}
use Rattle.byte_formats.specs.Spelling.{byte, name}
use Rattle.byte_formats.specs.Varint.{varint_bytes}
use Rattle.byte_formats.proofs.Varints.{varint_some}
use Rattle.entry_codec.specs.Spelling.{act_tag}
use Rattle.entry_segments.specs.Segment.{names_of, packed_fields, packed, all_packed, segment}
use Rattle.news_journal.specs.Log.{records}
use Rattle.news_journal.specs.Read.{length-be}
use Rattle.news_journal.specs.Opened.{payloads, AreFew}
use Rattle.news_pair.specs.Opened.{segments_of, end_of}
use Rattle.news_pair.specs.declared.side_reading.SideLog.{SideLog}
use Rattle.news_pair.proofs.Rows.{length-payloads}

-- each entry of a segment has its moment's varint and its tag
entry_long : (names : List Bytes) (before : ℕ) (e : Entry) → 2 ≤ length (packed names before e)
entry_long names before e = omega (arith, varint_some (e.moment - before), length-append (varint_bytes (e.moment - before)) (byte (act_tag e.act) ++ packed_fields names e.act))

entries_long : (names : List Bytes) (before : ℕ) (es : List Entry) → 2 * length es ≤ length (all_packed names before es)
entries_long names before [] = omega arith
entries_long names before (e ∷ es) = omega (arith, entry_long names before e, entries_long names e.moment es, length-append (packed names before e) (all_packed names e.moment es))

pub segment_long : (base : ℕ) (es : List Entry) → 2 * length es ≤ length (segment base es)
segment_long base es = omega (arith, entries_long (names_of es) 0 es, length-append (flat_map name (names_of es)) (all_packed (names_of es) 0 es))

-- each record of a log has its gate and its length
pub records_long : (ps : List Bytes) → 5 * length ps ≤ length (records ps)
records_long [] = omega arith
records_long (p ∷ ps) = omega (arith, records_long ps, length-append (to_be_bytes w32 (length p)) (p ++ records ps), length-append p (records ps), length-be (length p))

pub all_few : (side log : List Record) (skip : ℕ) (all : List Record) → all ≡ side ++ drop skip log → 2 * length side < 2 ^ 30 → length (records (payloads log)) < 2 ^ 30 → All (λ (r : Record). r.at < 2 ^ 30) side → AreFew log → AreFew all
all_few side log skip all are few few_log at log_few = subst AreFew (sym are) (record {
  count = omega (arith, few, few_log, records_long (payloads log), length-payloads log, length-append side (drop skip log), length-drop skip log);
  at = All-append (λ (r : Record). r.at < 2 ^ 30) side (drop skip log) at (All-drop (λ (r : Record). r.at < 2 ^ 30) skip log log_few.at);
})

-- the gate of a side stands behind its entries
pub side_ends : (found : Option SideLog) → IfSome found (λ o. o.gate ≡ 64 + length (records (payloads o.records.items))) → IfSome found (λ o. o.gate < 2 ^ 30)
    → (length (records (segments_of found)) ≤ end_of found) × (end_of found < 2 ^ 30)
side_ends None place near = (omega arith, omega arith)
side_ends (Some o) place near = (omega (arith, place), near)
