-- Where what was cut out of a wire stands.
use Rattle.std.specs.Prelude.{ℕ, ◌+◌, ◌<◌, ◌≤◌, ◌^◌, length}
use Rattle.agency_wires.specs.declared.found.Found.{Found}
use Rattle.agency_wires.specs.declared.found.Found.TheVariants as found

-- it lies within the first bytes, so many
abbrev pub IsWithin : ℕ → Found → Type 0
IsWithin count (found.Message at bytes) = at + 1 + length bytes ≤ count
IsWithin count (found.TooLong at) = at ≤ count

-- within an input of fewer than 2 ^ 63 bytes
abbrev pub IsPlaced : Found → Type 0
IsPlaced (found.Message at bytes) = at + 1 + length bytes < 2 ^ 63
IsPlaced (found.TooLong at) = at < 2 ^ 63
