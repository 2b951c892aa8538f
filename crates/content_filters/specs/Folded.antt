-- What operators say of folded texts.
use Rattle.std.specs.Prelude.{ℕ, Bool, false, not, nat_eq, nat_lt, ◌+◌, [], List, if◌then◌else◌}
use Rattle.std.specs.List.{starts_with, ends_with}
use Rattle.news_types.specs.declared.words.Op.{Op}
use Rattle.news_types.specs.declared.words.Op.TheVariants.{Like, NotLike, StartsWith, EndsWith}
use Rattle.news_types.specs.Names.{Bytes}
use Rattle.news_types.specs.Conditions.{folded, has_part, is_folding_op, first_value}

-- the value without its case, where the operator asks for it
abbrev pub folded_value : Op → List Bytes → Bytes
folded_value op values = if is_folding_op op then folded (first_value values) else []

-- what the operator says of a text and a value that are folded
abbrev pub compares_folded : Op → Bytes → Bytes → Bool
compares_folded Like text value = has_part text value
compares_folded NotLike text value = not (has_part text value)
compares_folded StartsWith text value = starts_with nat_eq text value
compares_folded EndsWith text value = ends_with nat_eq text value
compares_folded _ text value = false

-- an urgency as its digit, or the byte behind the digits
abbrev pub urgency_byte : ℕ → ℕ
urgency_byte urgency = if nat_lt 9 urgency then 58 else 48 + urgency
