-- Civil dates and times of day at UTC, and the moments at which they are.
use Rattle.std.specs.Prelude.{ℕ, ℤ, pos, ◌+◌, ◌*◌, ◌≤◌, ◌+ℤ◌, ◌*ℤ◌, ◌&&◌, nat_le, Bool}
use Rattle.jiff_core.specs.Calendar.{days_from_civil, days_in_month}
use Rattle.jiff_core.specs.DateTime.{IsCivilNanos}

-- a civil date and a time of day, without a zone
pub record Civil : Type 0 where
  pub year : ℕ
  pub month : ℕ
  pub day : ℕ
  pub hour : ℕ
  pub minute : ℕ
  pub second : ℕ

abbrev pub civil : ℕ → ℕ → ℕ → ℕ → ℕ → ℕ → Civil
civil y m d h mi s = record { year = y; month = m; day = d; hour = h; minute = mi; second = s }

-- the calendar has the date, in the years 0000 to 9999, and a clock shows the time
pub record IsCivil (c : Civil) : Type 0 where
  pub year : c.year ≤ 9999
  pub month : (1 ≤ c.month) × (c.month ≤ 12)
  pub day : (1 ≤ c.day) × (c.day ≤ days_in_month (pos c.year) c.month)
  pub hour : c.hour ≤ 23
  pub minute : c.minute ≤ 59
  pub second : c.second ≤ 59

-- the same as a test
abbrev pub is_civil : Civil → Bool
is_civil c =
    nat_le c.year 9999 && nat_le 1 c.month && nat_le c.month 12
    && nat_le 1 c.day && nat_le c.day (days_in_month (pos c.year) c.month)
    && nat_le c.hour 23 && nat_le c.minute 59 && nat_le c.second 59

-- whole seconds from 1970-01-01T00:00:00
abbrev pub seconds_of : Civil → ℤ
seconds_of c =
    days_from_civil (pos c.year) c.month c.day *ℤ pos 86_400
    +ℤ pos (c.hour * 3600 + c.minute * 60 + c.second)

-- the last moment that has a text, 9999-12-31T23:59:59Z
abbrev pub last_moment : ℕ
last_moment = 253_402_300_799

-- within the calendar's years, -9999 to 9999
abbrev pub IsEpochSecond : ℤ → Type 0
IsEpochSecond z = IsCivilNanos (z *ℤ pos 1_000_000_000)
