-- jiff's datetimes, as civil dates and times.
use Rattle.std.specs.Prelude.{◌≡◌, ℕ, pos, ◌*ℤ◌, ◌+ℤ◌, ◌<ℤ◌, ◌≤ℤ◌, true, false, if◌then◌else◌, Some, None}
use Rattle.std.proofs.Common.{arith, ◌+◌, ◌*◌, refl, ap}
use Rattle.std.proofs.lemmas.Int.{by_lt_z}
use Rattle.std.proofs.lemmas.Bool.Decides.{nat_tests}
use Rattle.jiff_core.specs.declared.civil.date.Date.{Date}
use Rattle.jiff_core.specs.declared.civil.datetime.DateTime.{DateTime}
use Rattle.jiff_core.specs.Calendar.{days_from_civil}
use Rattle.jiff_core.specs.Date.{epoch_day}
use Rattle.jiff_core.specs.DateTime.{civil_seconds}
use Rattle.jiff_core.proofs.SignedLemmas.{signed_arith}
use Rattle.jiff_core.proofs.CalendarLemmas.{day_count-lt_year, days_from_civil-day_count, day_count-epoch}
use Rattle.jiff_core.proofs.DateLemmas.{civil as is_civil_date}
use Rattle.release_rules.specs.Civil.{Civil, civil, IsCivil, is_civil, seconds_of}
use Rattle.release_rules.specs.Reader.{seconds_at}

not_before : (d : Date) → pos 0 ≤ℤ epoch_day d → d.year <ℤ pos 1970 → ⊥
not_before d h lt =
    let below = day_count-lt_year d.year d.month d.day (pos 1970) 1 1 (is_civil_date d) (omega arith) lt in
    omega (arith, signed_arith, below, day_count-epoch, days_from_civil-day_count d.year d.month d.day)

-- a day from 1970-01-01 on lies in a year from 1970 to 9999
pub year_from_1970 : (d : Date) → pos 0 ≤ℤ epoch_day d → (pos 1970 ≤ℤ d.year) × (d.year ≤ℤ pos 9999)
year_from_1970 d h =
    (by_lt_z d.year (pos 1970) (λ lt. absurd (not_before d h lt)) (λ ge. ge), (is_civil_date d).0.1)

-- the test is the fact
pub is_civil-true : (c : Civil) → IsCivil c → is_civil c ≡ true
is_civil-true c is = grind (arith, nat_tests)

pub IsCivil-test : (c : Civil) → is_civil c ≡ true → IsCivil c
IsCivil-test c e = record {
  year = grind (arith, nat_tests);
  month = (grind (arith, nat_tests), grind (arith, nat_tests));
  day = (grind (arith, nat_tests), grind (arith, nat_tests));
  hour = grind (arith, nat_tests);
  minute = grind (arith, nat_tests);
  second = grind (arith, nat_tests);
}

pub seconds_at-some : (c : Civil) → IsCivil c → Some (seconds_of c) ≡ seconds_at c
seconds_at-some c is = rw (is_civil-true c is) refl

pub seconds_at-none : (c : Civil) → (IsCivil c → ⊥) → None ≡ seconds_at c
seconds_at-none c isnt =
    elim (is_civil c) as (λ b. is_civil c ≡ b → None ≡ (if b then Some (seconds_of c) else None)) [
      | true ↦ λ e. absurd (isnt (IsCivil-test c e))
      | false ↦ λ e. refl
    ] refl

module _ (d : DateTime) (y : ℕ) (is : d.date.year ≡ pos y) where
  abbrev pub parts_of : Civil
  parts_of = civil y d.date.month d.date.day d.time.hour d.time.minute d.time.second

  pub civil_parts : IsCivil parts_of
  civil_parts =
      let date = is_civil_date d.date in
      record {
        year = omega (arith, signed_arith, date.0, is);
        month = (date.1.0, date.1.1);
        day = (date.2.0, rw is at date.2.1);
        hour = omega arith;
        minute = omega arith;
        second = omega arith;
      }

  pub civil_value : civil_seconds d ≡ seconds_of parts_of
  unfolding civil_seconds
  civil_value = ap (λ z. days_from_civil z d.date.month d.date.day *ℤ pos 86_400 +ℤ pos (d.time.hour * 3600 + d.time.minute * 60 + d.time.second)) is
