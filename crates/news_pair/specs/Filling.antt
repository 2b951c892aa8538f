-- Which entries a side has room for, segment by segment.
use Rattle.std.specs.Prelude.{◌≡◌, ℕ, ◌+◌, ◌≤◌, ◌<◌, ◌^◌, List, [], length, take, drop, map, All, ◌==◌, if◌then◌else◌, Option, Some, None}
use Rattle.news_types.specs.Names.{Bytes}
use Rattle.news_types.specs.declared.entry.Entry.{Entry}
use Rattle.entry_codec.specs.Spelling.{entry_bytes}
use Rattle.entry_codec.specs.Formed.{IsEntry}
use Rattle.entry_segments.specs.Segment.{segment}
use Rattle.entry_segments.specs.Packing.{IsLongest}
use Rattle.news_pair.specs.declared.pack_fault.PackFault.{PackFault}
use Rattle.news_pair.specs.declared.pack_fault.PackFault.TheVariants.{Full}

-- the bytes of a segment's record: it takes the longest front of the entries that goes into one segment
abbrev pub record_size : ℕ → ℕ → List Entry → ℕ
record_size base taken es = 5 + length (segment base (take taken es))

-- Entries behind so many go, segment by segment, into a side whose closed gate stands at this place: all of them, or not the next segment, which would take the side past 2^30 bytes; then with the side's bytes in use and the segment's length.
pub data Fills : ℕ → ℕ → List Entry → Option (ℕ × ℕ) → Type 0 where
  all_taken : {end base : ℕ} → Fills end base [] None
  next_taken : {end base taken : ℕ} {es : List Entry} {full : Option (ℕ × ℕ)} → IsLongest base es taken → end + 1 + record_size base taken es ≤ 2 ^ 30
      → Fills (end + record_size base taken es) (base + taken) (drop taken es) full → Fills end base es full
  no_room : {end base taken : ℕ} {es : List Entry} → IsLongest base es taken → 2 ^ 30 < end + 1 + record_size base taken es → Fills end base es (Some (end + 1, length (segment base (take taken es))))

-- where Full is answered, with these numbers
abbrev pub FullAs : ℕ → ℕ → List Entry → PackFault → Type 0
FullAs end base es (Full size count) = Fills end base es (Some (size, count))
FullAs end base es e = Unit {0}

-- the same of the entries with these payloads
pub record Filled (end base : ℕ) (left : List Bytes) (full : Option (ℕ × ℕ)) : Type 0 where
  pub entries : List Entry
  pub each : All IsEntry entries
  pub are : map entry_bytes entries ≡ left
  pub fills : Fills end base entries full

abbrev pub IsFullExactly : ℕ → ℕ → List Bytes → PackFault → Type 0
IsFullExactly end base left (Full size count) = Filled end base left (Some (size, count))
IsFullExactly end base left e = Unit {0}

-- the first closed gate: that of a side, or of one that is to be made
abbrev pub first_gate : ℕ → ℕ
first_gate end = if end == 0 then 64 else end
