-- Lines of a report.
use Rattle.std.specs.Prelude.{List, [], ◌∷◌, ◌++◌, codes}
use Rattle.news_types.specs.Names.{Bytes}

-- words with one space between them, and a line feed behind the last
abbrev pub line : List Bytes → Bytes
line [] = codes "\n"
line (word ∷ []) = word ++ codes "\n"
line (word ∷ next ∷ words) = word ++ codes " " ++ line (next ∷ words)
