-- Prometheus' text format, version 0.0.4. A label is a name of a-z, 0-9, - and _, a word of these, or a number: none has a
-- character that a label escapes.
use Rattle.std.specs.Prelude.{ℕ, List, [], ◌∷◌, ◌++◌, codes, decimal}
use Rattle.std.specs.List.{flat_map}
use Rattle.news_types.specs.Names.{Bytes}
use Rattle.server_metrics.specs.declared.family.Family.{Family}
use Rattle.server_metrics.specs.Families.{family_name, family_help, family_kind}

unfoldable pub help_line : Family → Bytes
help_line f = codes "# HELP " ++ family_name f ++ codes " " ++ family_help f ++ codes "\n"

unfoldable pub kind_line : Family → Bytes
kind_line f = codes "# TYPE " ++ family_name f ++ codes " " ++ family_kind f ++ codes "\n"

-- the two lines above the samples of a family
unfoldable pub heading : Family → Bytes
heading f = help_line f ++ kind_line f

-- a family of one number
unfoldable pub plain : Family → ℕ → Bytes
plain f n = heading f ++ family_name f ++ codes " " ++ decimal n ++ codes "\n"

-- a sample up to the text of its label
unfoldable pub opened : Family → Bytes → Bytes
opened f key = family_name f ++ codes "{" ++ key ++ codes "=\""

-- a sample with a label, and its number
unfoldable pub labelled : Family → Bytes → Bytes → ℕ → Bytes
labelled f key label n = opened f key ++ label ++ codes "\"} " ++ decimal n ++ codes "\n"

-- a family with a sample for each of these, and nothing where there are none
abbrev pub family : {A : Type 0} → Family → (A → Bytes) → List A → Bytes
family f sample [] = []
family f sample (x ∷ xs) = heading f ++ flat_map sample (x ∷ xs)
