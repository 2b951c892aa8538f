-- What a drill draws.
use Rattle.std.specs.Prelude.{ℕ, ◌+◌, ◌*◌, ◌/◌, ◌%◌, ◌^◌}

-- the generator behind a draw
abbrev pub next : ℕ → ℕ
next x = (x * 6364136223846793005 + 1442695040888963407) % 2 ^ 64

-- what is drawn from generator x: the high bits of the next one
abbrev pub draw : ℕ → ℕ
draw x = next x / 2 ^ 33
