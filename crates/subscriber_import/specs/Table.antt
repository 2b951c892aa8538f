-- The records of a table.
use Rattle.std.specs.Prelude.{ℕ, Bool, false, ◌&&◌, ◌==◌, length, List, [], ◌∷◌, codes, if◌then◌else◌, Option, Some, None}
use Rattle.news_types.specs.Names.{Bytes, same}
use Rattle.csv.specs.Records.{field_at}
use Rattle.csv.specs.Reading.{default_config, strip_bom, records}

-- a record as its fields
abbrev pub Row : Type 0
Row = List Bytes

-- the records of comma-separated values, a byte order mark taken off
abbrev pub rows_of : Bytes → List Row
rows_of table = records default_config (strip_bom table)

-- a field of a record is this word
abbrev pub is_same : Bytes → Option Bytes → Bool
is_same word None = false
is_same word (Some field) = same field word

abbrev pub has_word : Row → ℕ → Bytes → Bool
has_word row at word = is_same word (field_at row at)

-- the four words of the first record
abbrev pub is_head : Row → Bool
is_head row =
    length row == 4 && has_word row 0 (codes "subscriber") && has_word row 1 (codes "format") && has_word row 2 (codes "products") && has_word row 3 (codes "lag")

-- the records behind the head, if the table has it
abbrev pub behind_head : List Row → Option (List Row)
behind_head [] = None
behind_head (head ∷ rows) = if is_head head then Some rows else None
