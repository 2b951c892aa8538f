-- Moments as agencies write them.
use Rattle.std.specs.Prelude.{ℕ, ℤ, pos, ◌-ℤ◌, ◌==◌, ◌&&◌, ◌||◌, nat_lt, int_lt, unsigned_abs, Bool, if◌then◌else◌, List, [], ◌∷◌, length, take, drop, Option, Some, None, option_and_then, Result, Ok, Err}
use Rattle.serde_json.specs.Data.{Data}
use Rattle.serde_json.specs.Find.{as_str}
use Rattle.news_types.specs.Clock.{pair_number, fixed_of}
use Rattle.release_rules.specs.Civil.{civil, last_moment}
use Rattle.release_rules.specs.Reader.{seconds_at, date_at, behind_fraction, offset_at}
use Rattle.agency_items.specs.declared.fault.Property.{Property}
use Rattle.agency_items.specs.declared.fault.ItemFault.{ItemFault}
use Rattle.agency_items.specs.declared.fault.ItemFault.TheVariants.{WrongType}
use Rattle.agency_items.specs.Names.{property}

-- `T`, `t` or a space: what stands between the date and the time of day
abbrev pub parts_day : ℕ → Bool
parts_day b = b == 84 || b == 116 || b == 32

-- the hour and the minute, if both are there
abbrev pub both : Option ℕ → Option ℕ → Option (ℕ × ℕ)
both (Some h) (Some m) = Some (h, m)
both _ _ = None

-- `Thh:mm`
abbrev pub hour_and_minute : List ℕ → Option (ℕ × ℕ)
hour_and_minute (t ∷ h1 ∷ h2 ∷ a ∷ m1 ∷ m2 ∷ []) =
    if parts_day t && a == 58 then both (pair_number h1 h2) (pair_number m1 m2) else None
hour_and_minute _ = None

-- `:ss` behind the minute; without it the second is 0
abbrev pub second_at : List ℕ → Option ℕ
second_at (a ∷ s1 ∷ s2 ∷ rest) = if a == 58 then pair_number s1 s2 else Some 0
second_at _ = Some 0

-- what stands behind the second, or behind the minute; of a second a point and 1 to 9 digits are dropped
abbrev pub behind_second : List ℕ → Option (List ℕ)
behind_second (a ∷ s1 ∷ s2 ∷ rest) = if a == 58 then behind_fraction rest else Some (a ∷ s1 ∷ s2 ∷ rest)
behind_second rest = Some rest

-- the seconds from 1970-01-01T00:00:00 to a date and a time, if there are such a date and time
abbrev pub clock_at : Option (ℕ × ℕ × ℕ) → Option (ℕ × ℕ) → Option ℕ → Option ℤ
clock_at (Some (y, m, d)) (Some (h, mi)) (Some s) = seconds_at (civil y m d h mi s)
clock_at _ _ _ = None

-- `YYYY-MM-DDThh:mm` and a second
abbrev pub clock_seconds_of : List ℕ → Option ℕ → Option ℤ
clock_seconds_of minute second = clock_at (date_at (take 10 minute)) (hour_and_minute (drop 10 minute)) second

-- How far the clock is ahead of UTC: no text is UTC, and `Z`, `z`, `+hh`, `+hhmm` and `+hh:mm`, or these with `-`, say it.
abbrev pub zone_at : List ℕ → Option ℤ
zone_at [] = Some (pos 0)
zone_at (z ∷ []) = if z == 90 || z == 122 then Some (pos 0) else None
zone_at (sign ∷ a ∷ b ∷ []) = fixed_of (sign ∷ a ∷ b ∷ 58 ∷ 48 ∷ 48 ∷ [])
zone_at text = offset_at text

-- before 1970 it is 0, and behind the year 9999 there is none
abbrev pub from_1970 : ℤ → Option ℕ
from_1970 z = if int_lt z (pos 0) then Some 0 else (if int_lt (pos last_moment) z then None else Some (unsigned_abs z))

abbrev pub moment_at : Option ℤ → Option ℤ → Option ℕ
moment_at (Some clock) (Some zone) = from_1970 (clock -ℤ zone)
moment_at _ _ = None

-- A date, a time of day and perhaps a zone: `YYYY-MM-DDThh:mm`, then perhaps `:ss` with a fraction, then perhaps a zone.
abbrev pub moment_of : List ℕ → Option ℕ
moment_of text =
    if nat_lt (length text) 16
    then None
    else moment_at (clock_seconds_of (take 16 text) (second_at (drop 16 text))) (option_and_then zone_at (behind_second (drop 16 text)))

abbrev pub moment_in : Property → Option ℕ → Result ℕ ItemFault
moment_in p None = Err (WrongType p)
moment_in p (Some moment) = Ok moment

abbrev pub moment_if : Property → Option Data → Result ℕ ItemFault
moment_if p None = Ok 0
moment_if p (Some d) = moment_in p (option_and_then moment_of (as_str d))

-- The moment of a property, 0 where it is missing. An empty text is no moment, so that no embargo is lost that is not understood.
abbrev pub moment : Property → Data → Result ℕ ItemFault
moment p d = moment_if p (property p d)
