-- Rows of a word and what an object says behind it.
use Rattle.std.specs.Prelude.{List, [], ◌∷◌, if◌then◌else◌, Result}
use Rattle.serde_json.specs.Data.{Data}
use Rattle.news_types.specs.Names.{Bytes, same}
use Rattle.desk_lines.specs.declared.property.LineProperty.{LineProperty}
use Rattle.desk_lines.specs.Reading.{Says}

abbrev pub Row : Type 0 → Type 0
Row A = Bytes × Says A

-- what the row of this word says, else something other
abbrev pub by_word : {A : Type 0} → List (Row A) → Bytes → Data → Result A LineProperty → Result A LineProperty
by_word [] text d other = other
by_word (row ∷ rows) text d other = if same text row.0 then row.1 d else by_word rows text d other
