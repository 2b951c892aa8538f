-- How a segment is read from bytes.
use Rattle.std.specs.Prelude.{ℕ, List, [], ◌∷◌, length, get_or, Bool, true, ◌&&◌, ◌||◌, nat_eq, nat_lt, nat_le, ◌==◌, ◌+◌, ◌-◌, Option, Some, None, Result, if◌then◌else◌}
use Rattle.std.specs.Int.{w16, w32, w64}
use Rattle.std.specs.Ordering.{nat_cmp, is_lt}
use Rattle.std.specs.Cmp.Lexicographic.{pointwise, slice_cmp}
use Rattle.news_types.specs.Names.{Bytes}
use Rattle.news_types.specs.declared.entry.Act.{Act}
use Rattle.news_types.specs.declared.entry.Act.TheVariants.{Attempt, Receipt}
use Rattle.news_types.specs.declared.entry.Entry.{Entry}
use Rattle.byte_formats.specs.Spelling.{◌&◌, byte, name as name_bytes, list as spelled_list}
use Rattle.byte_formats.specs.Format.{Format, ranged, whole, upto}
use Rattle.byte_formats.specs.Fields.{name}
use Rattle.entry_codec.specs.Commands.{act_fields}
use Rattle.entry_codec.specs.Spelling.{act_tag}
use Rattle.entry_segments.specs.declared.segment.Segment.{Segment}
use Rattle.byte_formats.specs.Parts.{linked, picked, checked, steps, boxed}
use Rattle.byte_formats.specs.Varint.{varint}
use Rattle.entry_segments.specs.Segment as spelled
use Rattle.entry_segments.specs.Segment.{names_of}

-- ---- base, count and names

abbrev pub count_fits : ℕ → ℕ → Bool
count_fits base count = nat_le 1 count && nat_lt (base + count) 281474976710656

unfoldable pub count_at : ℕ → List ℕ → Result (ℕ × List ℕ) ℕ
count_at base = (checked (whole w32) (count_fits base)).read

abbrev pub count : ℕ → Format ℕ
count base = record { spell = (whole w32).spell; read = count_at base }

-- the first comes before the second
abbrev pub precedes : Bytes → Bytes → Bool
precedes n m = is_lt (slice_cmp nat_cmp n m)

abbrev pub ascends : List Bytes → Bool
ascends [] = true
ascends (n ∷ []) = true
ascends (n ∷ m ∷ ms) = precedes n m && ascends (m ∷ ms)

-- a name that comes behind this one; any name comes behind no bytes
unfoldable pub above_at : Bytes → List ℕ → Result (Bytes × List ℕ) ℕ
above_at before = (checked name (precedes before)).read

abbrev pub above : Bytes → Format Bytes
above before = record { spell = name.spell; read = above_at before }

abbrev pub the_name : Bytes → Bytes → Bytes
the_name before n = n

abbrev pub the_names : ℕ × List Bytes → Option (List Bytes)
the_names p = Some p.1

abbrev pub counted_names : Format (ℕ × List Bytes)
counted_names = linked (upto w16 65535) (λ n. steps above the_name n [])

unfoldable pub names_at : List ℕ → Result (List Bytes × List ℕ) ℕ
names_at = (picked counted_names the_names (spelled_list name_bytes)).read

-- names in byte order, none twice
abbrev pub names : Format (List Bytes)
names = record { spell = spelled_list name_bytes; read = names_at }

-- ---- entries

abbrev pub in_list : List Bytes → ℕ → Bool
in_list ns p = nat_lt p (length ns)

unfoldable pub counted_at : List Bytes → List ℕ → Result ((ℕ × ℕ) × List ℕ) ℕ
counted_at ns = (linked (checked (upto w16 65535) (in_list ns)) (λ _. varint 4294967295)).read

-- a place in the list, and a number
abbrev pub counted : List Bytes → Format (ℕ × ℕ)
counted ns = record { spell = (linked (checked (upto w16 65535) (in_list ns)) (λ _. varint 4294967295)).spell; read = counted_at ns }

abbrev pub counted_act : ℕ → List Bytes → ℕ × ℕ → Option Act
counted_act t ns p = if t == 2 then Some (Attempt (get_or ns p.0 []) p.1) else Some (Receipt (get_or ns p.0 []) p.1)

abbrev pub is_counted : ℕ → Bool
is_counted t = t == 2 || t == 3

abbrev pub is_bare : ℕ → Bool
is_bare t = t == 1 || t == 4

-- what stands behind a tag
abbrev pub behind_tag : List Bytes → ℕ → Format Act
behind_tag ns t =
    if is_counted t then picked (counted ns) (counted_act t ns) (spelled.packed_fields ns)
    else if is_bare t then act_fields t
    else boxed (act_fields t)

abbrev pub the_act : ℕ × Act → Option Act
the_act p = Some p.1

abbrev pub packed_act_bytes : List Bytes → Act → List ℕ
packed_act_bytes ns a = byte (act_tag a) & spelled.packed_fields ns a

unfoldable pub packed_act_at : List Bytes → List ℕ → Result (Act × List ℕ) ℕ
packed_act_at ns = (picked (linked (ranged 1 7) (behind_tag ns)) the_act (packed_act_bytes ns)).read

abbrev pub packed_act : List Bytes → Format Act
packed_act ns = record { spell = packed_act_bytes ns; read = packed_act_at ns }

abbrev pub entry_after : ℕ → ℕ × Act → Option Entry
entry_after before p = Some (record { moment = before + p.0; act = p.1 })

unfoldable pub packed_at : List Bytes → ℕ → List ℕ → Result (Entry × List ℕ) ℕ
packed_at ns before = (picked (linked (varint (253402300799 - before)) (λ _. packed_act ns)) (entry_after before) (spelled.packed ns before)).read

-- one entry behind an entry of this moment
abbrev pub packed : List Bytes → ℕ → Format Entry
packed ns before = record { spell = spelled.packed ns before; read = packed_at ns before }

abbrev pub moment_of : ℕ → Entry → ℕ
moment_of before e = e.moment

-- ---- segments

abbrev pub Head : Type 0
Head = ℕ × ℕ

abbrev pub Body : Type 0
Body = List Bytes × List Entry

abbrev pub body : ℕ → Format Body
body n = linked names (λ ns. steps (packed ns) moment_of n 0)

abbrev pub parts : Format (Head × Body)
parts = linked (linked (upto w64 281474976710654) count) (λ head. body head.1)

-- Every name of the list is an entry's.
abbrev pub same_names : List Bytes → List Bytes → Bool
same_names = pointwise (pointwise nat_eq)

abbrev pub segment_of : Head × Body → Option Segment
segment_of p = if same_names (names_of p.1.1) p.1.0 then Some (record { base = p.0.0; entries = p.1.1 }) else None

abbrev pub segment_bytes : Segment → List ℕ
segment_bytes s = spelled.segment s.base s.entries

unfoldable pub segment_at : List ℕ → Result (Segment × List ℕ) ℕ
segment_at = (picked parts segment_of segment_bytes).read

abbrev pub segment : Format Segment
segment = record { spell = segment_bytes; read = segment_at }
