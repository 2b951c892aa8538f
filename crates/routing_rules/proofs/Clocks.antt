-- A datetime of whole seconds, as a day and a second of it.
use Rattle.std.specs.Prelude.{◌≡◌, ℕ, ℤ, pos, ◌*ℤ◌, ◌+ℤ◌}
use Rattle.std.proofs.Common.{arith, ◌<◌}
use Rattle.jiff_core.specs.declared.civil.datetime.DateTime.{DateTime}
use Rattle.jiff_core.specs.Date.{epoch_day}
use Rattle.jiff_core.specs.DateTime.{civil_nanos}
use Rattle.jiff_core.specs.Time.{time_seconds}
use Rattle.jiff_core.proofs.SignedLemmas.{signed_arith}
use Rattle.jiff_core.proofs.DateTimeLemmas.{civil_nanos-parts, time_nanos_bound}
use Rattle.news_types.specs.Clock.{clock_day, clock_second}

pub whole_seconds : (dt : DateTime) (z : ℤ) → civil_nanos dt ≡ z *ℤ pos 1_000_000_000 → (epoch_day dt.date *ℤ pos 86_400 +ℤ pos (time_seconds dt.time) ≡ z) × (dt.time.subsec_nanosecond ≡ 0) × (time_seconds dt.time < 86_400)
whole_seconds dt z e = omega (arith, signed_arith, civil_nanos-parts dt, time_nanos_bound dt.time)

pub day_is : (d z : ℤ) (s : ℕ) → d *ℤ pos 86_400 +ℤ pos s ≡ z → s < 86_400 → clock_day z ≡ d
day_is d z s e b = omega (arith, signed_arith)

pub second_is : (d z : ℤ) (s : ℕ) → d *ℤ pos 86_400 +ℤ pos s ≡ z → s < 86_400 → clock_second z ≡ s
second_is d z s e b = omega (arith, signed_arith)
