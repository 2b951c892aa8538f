-- What a byte does to a number that is read, digit by digit.
use Rattle.std.specs.Prelude.{◌≡◌, ◌≤◌, ◌<◌, ◌+◌, ◌-◌, ◌*◌, ℕ, Option, Some, None}
use Rattle.record_lines.specs.declared.number.Move.{Move}
use Rattle.record_lines.specs.declared.number.Move.TheVariants as move

abbrev pub IsMove : Move → Option ℕ → Option (Option (Option ℕ)) → Type 0
IsMove (move.On next) value step = step ≡ Some (Some (Some next))
IsMove (move.End found) value step = (step ≡ Some None) × (value ≡ Some found)
IsMove move.Refused value step = step ≡ None

-- the value with one digit more, where that is at most the greatest
abbrev pub IsWithDigit : Option ℕ → ℕ → ℕ → ℕ → Type 0
IsWithDigit (Some next) value byte most = (next ≡ value * 10 + (byte - 48)) × (next ≤ most)
IsWithDigit None value byte most = most < value * 10 + (byte - 48)
