-- Numbers in 7-bit groups, the low group first, the top bit set on all but the last, in the fewest bytes.
use Rattle.std.specs.Prelude.{ℕ, zero, suc, List, [], ◌∷◌, length, Bool, true, false, not, ◌&&◌, ◌||◌, Result, Ok, Err, nat_lt, ◌==◌, ◌+◌, ◌-◌, ◌*◌, ◌/◌, ◌%◌, if◌then◌else◌}
use Rattle.byte_formats.specs.Format.{Format, ◌>>=◌}

-- so many groups more at most
abbrev pub groups : ℕ → ℕ → List ℕ
groups zero n = n ∷ []
groups (suc more) n = if nat_lt n 128 then n ∷ [] else (128 + n % 128) ∷ groups more (n / 128)

-- numbers of at most so many groups more are below this
unfoldable pub top : ℕ → ℕ
top zero = 128
top (suc more) = 128 * top more

-- a number of 64 bits has at most ten
unfoldable pub varint_bytes : ℕ → List ℕ
varint_bytes n = groups 9 n

-- The last group: it is 0 only where it is the first, too.
abbrev pub last_group : Bool → ℕ → ℕ → List ℕ → Result (ℕ × List ℕ) ℕ
last_group first most b bytes = if nat_lt most b || (b == 0 && not first) then Err (suc (length bytes)) else Ok (b, bytes)

-- what the group is with the ones behind it
abbrev pub grouped : ℕ → ℕ × List ℕ → Result (ℕ × List ℕ) ℕ
grouped low x = Ok (low + 128 * x.0, x.1)

-- a number up to most
unfoldable pub varint_at : Bool → ℕ → List ℕ → Result (ℕ × List ℕ) ℕ
varint_at first most [] = Err 0
varint_at first most (b ∷ bytes) =
    if nat_lt b 128 then last_group first most b bytes
    else if nat_lt most b then Err (suc (length bytes))
    else varint_at false ((most - (b - 128)) / 128) bytes >>= grouped (b - 128)

abbrev pub varint : ℕ → Format ℕ
varint most = record { spell = varint_bytes; read = varint_at true most }
