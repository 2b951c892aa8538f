-- What unpacking answers.
use Rattle.std.specs.Prelude.{◌≡◌, [], Option, Some, None, Result, Ok, Err}
use Rattle.news_types.specs.Names.{Bytes}
use Rattle.entry_codec.specs.declared.fault.CodecFault.{CodecFault}
use Rattle.entry_codec.specs.declared.fault.CodecFault.TheVariants as codec
use Rattle.entry_segments.specs.declared.segment.Segment.{Segment}
use Rattle.entry_segments.specs.Segment.{IsSegment}

-- a segment has a spelling
abbrev pub IsWhole : Segment → Type 0
IsWhole s = IsSegment s.base s.entries

-- the segment, unless memory ran out
abbrev pub IsOrMemory : Result Segment CodecFault → Segment → Type 0
IsOrMemory (Ok x) s = x ≡ s
IsOrMemory (Err codec.Memory) s = Unit {0}
IsOrMemory (Err (codec.At at)) s = ⊥

-- the name before, or no bytes where there is none
abbrev pub name_before : Option Bytes → Bytes
name_before None = []
name_before (Some n) = n
