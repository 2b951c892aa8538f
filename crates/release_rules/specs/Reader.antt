-- The moment of a text, as a function.
use Rattle.std.specs.Prelude.{ℕ, ℤ, pos, ◌+◌, ◌*◌, ◌-ℤ◌, ◌==◌, ◌&&◌, ◌||◌, nat_lt, int_lt, unsigned_abs, if◌then◌else◌, List, [], ◌∷◌, length, take, drop, Option, Some, None, option_and_then}
use Rattle.std.specs.Char.{is_ascii_digit}
use Rattle.std.specs.List.{prefix_len}
use Rattle.news_types.specs.Clock.{pair_number, fixed_of}
use Rattle.release_rules.specs.Civil.{Civil, civil, is_civil, seconds_of, last_moment}

-- the seconds from 1970 to a date and a time, if there are such a date and time
abbrev pub seconds_at : Civil → Option ℤ
seconds_at c = if is_civil c then Some (seconds_of c) else None

-- three numbers, if all are there
abbrev pub three : Option ℕ → Option ℕ → Option ℕ → Option (ℕ × ℕ × ℕ)
three (Some a) (Some b) (Some c) = Some (a, b, c)
three _ _ _ = None

-- the year by its century
abbrev pub year_at : Option ℕ → Option ℕ → Option ℕ
year_at (Some century) (Some years) = Some (century * 100 + years)
year_at _ _ = None

-- `YYYY-MM-DD`
abbrev pub date_at : List ℕ → Option (ℕ × ℕ × ℕ)
date_at (y1 ∷ y2 ∷ y3 ∷ y4 ∷ a ∷ m1 ∷ m2 ∷ b ∷ d1 ∷ d2 ∷ []) =
    if a == 45 && b == 45
    then three (year_at (pair_number y1 y2) (pair_number y3 y4)) (pair_number m1 m2) (pair_number d1 d2)
    else None
date_at _ = None

-- `Thh:mm:ss`
abbrev pub time_at : List ℕ → Option (ℕ × ℕ × ℕ)
time_at (t ∷ h1 ∷ h2 ∷ a ∷ m1 ∷ m2 ∷ b ∷ s1 ∷ s2 ∷ []) =
    if t == 84 && a == 58 && b == 58
    then three (pair_number h1 h2) (pair_number m1 m2) (pair_number s1 s2)
    else None
time_at _ = None

abbrev pub clock_at : Option (ℕ × ℕ × ℕ) → Option (ℕ × ℕ × ℕ) → Option ℤ
clock_at (Some (y, m, d)) (Some (h, mi, s)) = seconds_at (civil y m d h mi s)
clock_at _ _ = None

-- `YYYY-MM-DDThh:mm:ss`
abbrev pub clock_seconds_of : List ℕ → Option ℤ
clock_seconds_of text = clock_at (date_at (take 10 text)) (time_at (drop 10 text))

-- what stands behind a fraction of 1 to 9 digits, or behind none
abbrev pub behind_digits : ℕ → List ℕ → Option (List ℕ)
behind_digits n text = if n == 0 || nat_lt 9 n then None else Some (drop n text)

abbrev pub behind_fraction : List ℕ → Option (List ℕ)
behind_fraction [] = Some []
behind_fraction (b ∷ rest) =
    if b == 46 then behind_digits (prefix_len is_ascii_digit rest) rest else Some (b ∷ rest)

-- `Z`, `+hhmm` or `-hhmm`, `+hh:mm` or `-hh:mm`, in seconds
abbrev pub offset_at : List ℕ → Option ℤ
offset_at (z ∷ []) = if z == 90 then Some (pos 0) else None
offset_at (sign ∷ a ∷ b ∷ c ∷ d ∷ []) = fixed_of (sign ∷ a ∷ b ∷ 58 ∷ c ∷ d ∷ [])
offset_at text = fixed_of text

-- a moment, from 1970-01-01T00:00:00Z to the last
abbrev pub in_range : ℤ → Option ℕ
in_range z = if int_lt z (pos 0) || int_lt (pos last_moment) z then None else Some (unsigned_abs z)

abbrev pub moment_at : Option ℤ → Option ℤ → Option ℕ
moment_at (Some clock) (Some offset) = in_range (clock -ℤ offset)
moment_at _ _ = None

-- the moment of a text, or none
abbrev pub moment_of : List ℕ → Option ℕ
moment_of text =
    if nat_lt (length text) 19
    then None
    else moment_at (clock_seconds_of (take 19 text)) (option_and_then offset_at (behind_fraction (drop 19 text)))
