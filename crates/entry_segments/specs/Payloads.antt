-- Segments read with their entries as the payloads of their records.
use Rattle.std.specs.Prelude.{◌≡◌, ℕ, List, ◌++◌, map, Result, Ok, Err}
use Rattle.news_types.specs.Names.{Bytes}
use Rattle.news_types.specs.declared.entry.Entry.{Entry}
use Rattle.byte_formats.specs.declared.stop.Stopped.{Stopped}
use Rattle.byte_formats.specs.Format.{◌>>=◌}
use Rattle.byte_formats.specs.Gives.{Fails}
use Rattle.entry_codec.specs.declared.fault.CodecFault.{CodecFault}
use Rattle.entry_codec.specs.declared.fault.CodecFault.TheVariants as codec
use Rattle.entry_codec.specs.Spelling.{entry_bytes}
use Rattle.entry_segments.specs.Segment.{with_names_of, names_from}
use Rattle.entry_segments.specs.Reading.{segment_bytes}
use Rattle.entry_segments.specs.Answers.{IsWhole}
use Rattle.entry_segments.specs.declared.segment.Segment.{Segment}
use Rattle.entry_segments.specs.declared.payloads.EntryPayloads.{EntryPayloads}
use Rattle.entry_segments.specs.declared.payloads.SegmentPayloads.{SegmentPayloads}

-- these are the segment's base, and the payloads of its entries' records
pub record HasPayloads (s : Segment) (u : SegmentPayloads) : Type 0 where
  pub base : u.base ≡ s.base
  pub payloads : u.payloads.items ≡ map entry_bytes s.entries

-- the bytes are those of a segment that has these payloads
pub record IsReadFrom (bytes : List ℕ) (u : SegmentPayloads) : Type 0 where
  pub of : Segment
  pub whole : IsWhole of
  pub is : bytes ≡ segment_bytes of
  pub has : HasPayloads of u

-- the segment's payloads, unless memory ran out
abbrev pub HasPayloadsOrMemory : Result SegmentPayloads CodecFault → Segment → Type 0
HasPayloadsOrMemory (Ok u) s = HasPayloads s u
HasPayloadsOrMemory (Err codec.Memory) s = Unit {0}
HasPayloadsOrMemory (Err (codec.At at)) s = ⊥

-- ---- what is read, told as payloads

-- an entry: its moment, its payload, and these names with its own
unfoldable pub told_entry : List Bytes → Result (Entry × List ℕ) ℕ → Result ((ℕ × Bytes × List Bytes) × List ℕ) ℕ
told_entry names read = read >>= λ x. Ok ((x.0.moment, entry_bytes x.0, with_names_of x.0.act names), x.1)

-- entries: their payloads behind these, and these names with theirs
unfoldable pub told_behind : List Bytes → List Bytes → Result (List Entry × List ℕ) ℕ → Result ((List Bytes × List Bytes) × List ℕ) ℕ
told_behind payloads names read = read >>= λ x. Ok ((payloads ++ map entry_bytes x.0, names_from names x.0), x.1)

-- a segment: its base, and its entries' payloads
unfoldable pub told_segment : Result (Segment × List ℕ) ℕ → Result ((ℕ × List Bytes) × List ℕ) ℕ
told_segment read = read >>= λ x. Ok ((x.0.base, map entry_bytes x.0.entries), x.1)

-- the same of a segment that all of the bytes spell
unfoldable pub told_whole : Result Segment ℕ → Result (ℕ × List Bytes) ℕ
told_whole read = read >>= λ s. Ok (s.base, map entry_bytes s.entries)

-- ---- what a call that reads answers

abbrev pub GivesEntry : Result (ℕ × Bytes) Stopped → List Bytes → List ℕ → Result ((ℕ × Bytes × List Bytes) × List ℕ) ℕ → Type 0
GivesEntry (Ok p) names rest told = told ≡ Ok ((p.0, p.1, names), rest)
GivesEntry (Err e) names rest told = Fails e told

abbrev pub GivesEntries : Result EntryPayloads Stopped → List ℕ → Result ((List Bytes × List Bytes) × List ℕ) ℕ → Type 0
GivesEntries (Ok p) rest told = told ≡ Ok ((p.items.items, p.names), rest)
GivesEntries (Err e) rest told = Fails e told

abbrev pub GivesSegment : Result SegmentPayloads Stopped → List ℕ → Result ((ℕ × List Bytes) × List ℕ) ℕ → Type 0
GivesSegment (Ok u) rest told = told ≡ Ok ((u.base, u.payloads.items), rest)
GivesSegment (Err e) rest told = Fails e told

abbrev pub GivesWhole : Result SegmentPayloads Stopped → Result (ℕ × List Bytes) ℕ → Type 0
GivesWhole (Ok u) told = told ≡ Ok (u.base, u.payloads.items)
GivesWhole (Err e) told = Fails e told
