-- Which segment is the first that another number of entries stands before than it says.
use Rattle.std.specs.Prelude.{ℕ, ◌==◌, Option, Some, None, if◌then◌else◌}

-- the gate that was found earlier, or this one, of a segment with this base, where so many entries stand before it
abbrev pub earlier_or : Option ℕ → ℕ → ℕ → ℕ → Option ℕ
earlier_or (Some gate) next base count = Some gate
earlier_or None next base count = if base == count then None else Some next
