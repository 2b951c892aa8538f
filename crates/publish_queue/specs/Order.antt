-- Names that differ.
use Rattle.std.specs.Prelude.{◌≡◌, false, List, [], ◌∷◌}
use Rattle.news_types.specs.Names.{Bytes, is_in}

-- none twice
abbrev pub Differ : List Bytes → Type 0
Differ [] = Unit {0}
Differ (s ∷ ss) = (is_in s ss ≡ false) × Differ ss
