-- What a payload holds as a segment: how many entries stand before it, and the payloads of its entries.
use Rattle.std.specs.Prelude.{ℕ, List, map, Option, Some, None, Result, Ok, Err}
use Rattle.news_types.specs.Names.{Bytes}
use Rattle.byte_formats.specs.Gives.{all_of}
use Rattle.entry_codec.specs.Spelling.{entry_bytes}
use Rattle.entry_segments.specs.Reading.{segment}
use Rattle.entry_segments.specs.declared.segment.Segment.{Segment}

abbrev pub spelled : Result Segment ℕ → Option (ℕ × List Bytes)
spelled (Ok s) = Some (s.base, map entry_bytes s.entries)
spelled (Err left) = None

unfoldable pub segment_in : List ℕ → Option (ℕ × List Bytes)
segment_in payload = spelled (all_of segment payload)
