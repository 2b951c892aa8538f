-- The text of a moment, as a function: whole years and then whole months are counted off its days.
use Rattle.std.specs.Prelude.{ℕ, zero, suc, ℤ, pos, ◌+◌, ◌-◌, ◌/◌, ◌%◌, true, false, nat_lt, min, List, ◌++◌, codes}
use Rattle.jiff_core.specs.Calendar.{days_in_year, days_in_month}
use Rattle.release_rules.specs.Civil.{Civil, last_moment}
use Rattle.release_rules.specs.Texts.{civil_text}

-- the year, among n from y on, in which a day lies that is so many days behind 1 January of y, and how many days it is behind its own 1 January
unfoldable pub year_of_day : ℕ → ℕ → ℕ → ℕ × ℕ
year_of_day zero y days = (y, days)
year_of_day (suc n) y days =
    elim (nat_lt days (days_in_year (pos y))) [
      | true ↦ (y, days)
      | false ↦ year_of_day n (y + 1) (days - days_in_year (pos y))
    ]

-- the month of the year y, among n from m on, in which a day lies that is so many days behind the first of m, and how many days it is behind its own first
unfoldable pub month_of_day : ℤ → ℕ → ℕ → ℕ → ℕ × ℕ
month_of_day y zero m days = (m, days)
month_of_day y (suc n) m days =
    elim (nat_lt days (days_in_month y m)) [
      | true ↦ (m, days)
      | false ↦ month_of_day y n (m + 1) (days - days_in_month y m)
    ]

abbrev pub civil_with : ℕ → ℕ × ℕ → ℕ → Civil
civil_with y month second = record {
  year = y;
  month = month.0;
  day = month.1 + 1;
  hour = second / 3600;
  minute = second / 60 % 60;
  second = second % 60;
}

abbrev pub civil_in : ℕ × ℕ → ℕ → Civil
civil_in year second = civil_with year.0 (month_of_day (pos year.0) 12 1 year.1) second

-- what calendar and clock show at UTC, at a moment up to the last
abbrev pub civil_at : ℕ → Civil
civil_at moment = civil_in (year_of_day 8030 1970 (moment / 86_400)) (moment % 86_400)

-- `YYYY-MM-DDThh:mm:ssZ`. Behind the last moment that has a text it is the last one's
abbrev pub moment_text : ℕ → List ℕ
moment_text moment = civil_text (civil_at (min moment last_moment)) ++ codes "Z"
