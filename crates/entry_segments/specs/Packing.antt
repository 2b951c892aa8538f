-- Which entries go into one segment.
use Rattle.std.specs.Prelude.{ℕ, suc, ◌<◌, ◌≤◌, ◌+◌, List, [], ◌∷◌, length, take, Bool, ◌&&◌, nat_le, if◌then◌else◌}
use Rattle.std.specs.List.{flat_map}
use Rattle.news_types.specs.Names.{Bytes}
use Rattle.news_types.specs.declared.entry.Entry.{Entry}
use Rattle.byte_formats.specs.Spelling.{name}
use Rattle.entry_segments.specs.Segment.{with_names_of, packed, segment, IsSegment}

-- how many bytes the names have, each with its byte of length
abbrev pub names_size : List Bytes → ℕ
names_size ns = length (flat_map name ns)

-- so many bytes beside these names go into one segment
abbrev pub has_room : ℕ → List Bytes → Bool
has_room size ns = nat_le (size + names_size ns) 2097152 && nat_le (length ns) 65535

-- How many of the entries go in, from the first one on, behind so many bytes beside these names and behind an entry of this moment. An entry takes as many bytes whatever the names.
abbrev pub fitting : ℕ → List Bytes → ℕ → List Entry → ℕ
fitting size ns before [] = 0
fitting size ns before (e ∷ es) =
    if has_room (size + length (packed [] before e)) (with_names_of e.act ns)
    then suc (fitting (size + length (packed [] before e)) (with_names_of e.act ns) e.moment es)
    else 0

-- This many of the entries go in, and no greater number does.
pub record IsLongest (base : ℕ) (es : List Entry) (taken : ℕ) : Type 0 where
  pub within : taken ≤ length es
  pub whole : IsSegment base (take taken es)
  pub short : length (segment base (take taken es)) ≤ 2097152
  pub longest : (n : ℕ) → taken < n → n ≤ length es → IsSegment base (take n es) → 2097152 < length (segment base (take n es))
