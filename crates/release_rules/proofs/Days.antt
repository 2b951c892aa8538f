-- Counting years and months off a moment's days leads to its date.
use Rattle.std.specs.Prelude.{◌≡◌, ℕ, zero, suc, ℤ, pos, ◌+◌, ◌-◌, ◌*◌, ◌/◌, ◌%◌, ◌<◌, ◌≤◌, true, false, nat_lt}
use Rattle.std.proofs.Common.{arith, refl, ap, ◌∙◌, inl, inr}
use Rattle.std.proofs.lemmas.Bool.{cases_order}
use Rattle.jiff_core.specs.Calendar.{days_from_civil, day_count, days_in_month, days_in_year, days_of_months, IsCivilDate}
use Rattle.jiff_core.proofs.SignedLemmas.{signed_arith}
use Rattle.jiff_core.proofs.CalendarLemmas.{day_count-epoch, day_count-end, day_count-next_year, day_count-day_of_year, days_of_months_more, days_of_months_all, days_of_months-zero, days_from_civil-day_count, day_count-lt_year, day_count-lt_month, day_count-day}
use Rattle.release_rules.specs.Civil.{Civil, civil, IsCivil, seconds_of, last_moment}
use Rattle.release_rules.specs.Writer.{year_of_day, month_of_day, civil_in, civil_at}
use borrow.Author.Tests.{ltb-true, ltb-false}

-- a year to 9999 and the days behind its 1 January, which lie in it
pub record IsInYear (count : ℕ) (r : ℕ × ℕ) : Type 0 where
  pub year : r.0 ≤ 9999
  pub days : r.1 < days_in_year (pos r.0)
  pub place : day_count (pos r.0) 1 1 + r.1 ≡ count

pub year_of_day-is : (n y days count : ℕ) → y + n ≡ 10000 → day_count (pos y) 1 1 + days ≡ count → count < 7_304_850 → IsInYear count (year_of_day n y days)
unfolding year_of_day
year_of_day-is zero y days count all place below =
    let end : y ≡ 10000 = omega arith in
    absurd (omega (arith, rw end at place, day_count-end))
year_of_day-is (suc n) y days count all place below =
    elim (nat_lt days (days_in_year (pos y))) as (λ b. nat_lt days (days_in_year (pos y)) ≡ b → IsInYear count (elim b [ true ↦ (y, days) | false ↦ year_of_day n (y + 1) (days - days_in_year (pos y)) ])) [
      | true ↦ λ e. record { year = omega arith; days = ltb-true days _ e; place = place }
      | false ↦ λ e.
          let past : days_in_year (pos y) ≤ days = ltb-false days _ e in
          let next = day_count-next_year (pos y) (pos (y + 1)) (omega (arith, signed_arith)) (omega (arith, signed_arith)) in
          year_of_day-is n (y + 1) (days - days_in_year (pos y)) count (omega arith) (omega arith) below
    ] refl

-- a month and the days behind its first, which lie in it
pub record IsInMonth (y : ℤ) (count : ℕ) (r : ℕ × ℕ) : Type 0 where
  pub month : (1 ≤ r.0) × (r.0 ≤ 12)
  pub days : r.1 < days_in_month y r.0
  pub place : days_of_months y (r.0 - 1) + r.1 ≡ count

pub month_of_day-is : (y : ℤ) (n m days count : ℕ) → 1 ≤ m → m + n ≡ 13 → days_of_months y (m - 1) + days ≡ count → count < days_in_year y → IsInMonth y count (month_of_day y n m days)
unfolding month_of_day
month_of_day-is y zero m days count first all place below =
    let end : m - 1 ≡ 12 = omega arith in
    absurd (omega (arith, rw end at place, days_of_months_all y))
month_of_day-is y (suc n) m days count first all place below =
    elim (nat_lt days (days_in_month y m)) as (λ b. nat_lt days (days_in_month y m) ≡ b → IsInMonth y count (elim b [ true ↦ (m, days) | false ↦ month_of_day y n (m + 1) (days - days_in_month y m) ])) [
      | true ↦ λ e. record { month = (first, omega arith); days = ltb-true days _ e; place = place }
      | false ↦ λ e.
          let past : days_in_month y m ≤ days = ltb-false days _ e in
          let back : m + 1 - 1 ≡ m = omega arith in
          let more = days_of_months_more y m first in
          month_of_day-is y n (m + 1) (days - days_in_month y m) count (omega arith) (omega arith) (rw back (omega arith)) below
    ] refl

day_in : (days : ℕ) → days ≤ 2_932_896 → IsInYear (4_371_953 + days) (year_of_day 8030 1970 days)
day_in days few = year_of_day-is 8030 1970 days (4_371_953 + days) (omega arith) (omega (arith, day_count-epoch)) (omega arith)

module _ (days : ℕ) (few : days ≤ 2_932_896) where
  abbrev year : ℕ × ℕ
  year = year_of_day 8030 1970 days

  abbrev month : ℕ × ℕ
  month = month_of_day (pos year.0) 12 1 year.1

  month_in : IsInMonth (pos year.0) year.1 month
  month_in =
      let start = days_of_months-zero (pos year.0) in
      let back : 1 - 1 ≡ 0 = refl in
      month_of_day-is (pos year.0) 12 1 year.1 year.1 (omega arith) (omega arith) (omega (arith, start)) (day_in days few).days

  pub day_number : days_from_civil (pos year.0) month.0 (month.1 + 1) ≡ pos days
  day_number =
      let y = day_in days few in
      let m = month_in in
      let count = day_count-day_of_year (pos year.0) month.0 (month.1 + 1) (omega arith) in
      omega (arith, signed_arith, y.place, m.place, count, days_from_civil-day_count (pos year.0) month.0 (month.1 + 1))

  pub civil_in-is : (second : ℕ) → second < 86_400 → IsCivil (civil_in year second)
  civil_in-is second lt =
      let y = day_in days few in
      let m = month_in in
      record {
        year = y.year;
        month = m.month;
        day = (omega arith, omega (arith, m.days));
        hour = omega arith;
        minute = omega arith;
        second = omega arith;
      }

  pub civil_in-seconds : (second : ℕ) → second < 86_400 → seconds_of (civil_in year second) ≡ pos (days * 86_400 + second)
  civil_in-seconds second lt =
      let clock : second / 3600 * 3600 + second / 60 % 60 * 60 + second % 60 ≡ second = omega arith in
      rw (day_number, clock) (omega (arith, signed_arith))

pub civil_at-is : (moment : ℕ) → moment ≤ last_moment → IsCivil (civil_at moment)
civil_at-is moment le = civil_in-is (moment / 86_400) (omega arith) (moment % 86_400) (omega arith)

pub civil_at-seconds : (moment : ℕ) → moment ≤ last_moment → seconds_of (civil_at moment) ≡ pos moment
civil_at-seconds moment le =
    let whole : moment / 86_400 * 86_400 + moment % 86_400 ≡ moment = omega arith in
    civil_in-seconds (moment / 86_400) (omega arith) (moment % 86_400) (omega arith) ∙ ap pos whole

-- the date of a civil date
date_is : (c : Civil) → IsCivil c → IsCivilDate (pos c.year) c.month c.day
date_is c is = ((omega (arith, signed_arith, is.year), omega (arith, signed_arith, is.year)), (is.month.0, is.month.1), (is.day.0, is.day.1))

-- two civil dates of one day number are the same
same_date : (a b : Civil) → IsCivil a → IsCivil b → day_count (pos a.year) a.month a.day ≡ day_count (pos b.year) b.month b.day → (a.year ≡ b.year) × (a.month ≡ b.month) × (a.day ≡ b.day)
same_date a b ia ib e =
    elim (cases_order a.year b.year) [
      | inl y ↦ elim (cases_order a.month b.month) [
        | inl m ↦ (y, m, omega (arith, rw (y, m) at e, day_count-day (pos b.year) b.month a.day b.day ia.day.0 ib.day.0))
        | inr (inl lt) ↦ absurd (omega (arith, rw y at e, day_count-lt_month (pos b.year) a.month a.day b.month b.day (rw y at (date_is a ia)) ib.day.0 lt))
        | inr (inr gt) ↦ absurd (omega (arith, rw y at e, day_count-lt_month (pos b.year) b.month b.day a.month a.day (date_is b ib) ia.day.0 gt))
      ]
      | inr (inl lt) ↦ absurd (omega (arith, e, day_count-lt_year (pos a.year) a.month a.day (pos b.year) b.month b.day (date_is a ia) ib.day.0 (omega (arith, signed_arith))))
      | inr (inr gt) ↦ absurd (omega (arith, e, day_count-lt_year (pos b.year) b.month b.day (pos a.year) a.month a.day (date_is b ib) ia.day.0 (omega (arith, signed_arith))))
    ]

-- a date and a time are named by their seconds
pub seconds_of-injective : (a b : Civil) → IsCivil a → IsCivil b → seconds_of a ≡ seconds_of b → a ≡ b
seconds_of-injective a b ia ib e =
    let days-a = days_from_civil-day_count (pos a.year) a.month a.day in
    let days-b = days_from_civil-day_count (pos b.year) b.month b.day in
    let date = same_date a b ia ib (omega (arith, signed_arith, e, days-a, days-b, ia.hour, ia.minute, ia.second, ib.hour, ib.minute, ib.second)) in
    let clock : a.hour * 3600 + a.minute * 60 + a.second ≡ b.hour * 3600 + b.minute * 60 + b.second = omega (arith, signed_arith, e, ia.hour, ia.minute, ia.second, ib.hour, ib.minute, ib.second) in
    let hour : a.hour ≡ b.hour = omega (arith, clock, ia.minute, ia.second, ib.minute, ib.second) in
    let minute : a.minute ≡ b.minute = omega (arith, clock, ia.second, ib.second) in
    let second : a.second ≡ b.second = omega (arith, clock, hour, minute) in
    λ i. civil (date.0 i) (date.1 i) (date.2 i) (hour i) (minute i) (second i)
