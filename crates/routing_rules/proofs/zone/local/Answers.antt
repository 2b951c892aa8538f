use Rattle.std.proofs.Common.{◌≡◌, sym, ap, ◌∙◌, arith, min}
use Rattle.std.specs.Prelude.{ℤ, ℕ, pos, ◌+ℤ◌, ◌*ℤ◌}
use Rattle.jiff_core.specs.DateTime.{civil_nanos}
use Rattle.jiff_core.specs.Date.{epoch_day}
use Rattle.jiff_core.specs.Time.{time_seconds}
use Rattle.jiff_core.specs.Calendar.{weekday_number}
use Rattle.jiff_core.specs.Timestamp.{nanos_of_seconds}
use Rattle.jiff_tz.specs.Zone.{offset_at}
use Rattle.jiff.specs.ZoneView.{plain_zone}
use Rattle.jiff_core.proofs.SignedLemmas.{signed_arith, signed_casts}
use Rattle.news_types.specs.Clock.{clock_day, clock_second, last_local}
use Rattle.routing_rules.proofs.Clocks.{whole_seconds, day_is, second_is}
use Rattle.routing_rules.proofs.zone.local.Goals as goal

pub returns-clause-value : goal.returns-clause-value
returns-clause-value c =
    let kept : ℕ = min c.args.moment last_local in
    let m : c.min.result ≡ min c.args.moment 253_402_207_200 = c.min.ensures in
    let n : c.in-Ok.instant.nanosecond ≡ nanos_of_seconds (pos kept) = omega (arith, signed_casts, c.in-Ok.ensures.value, m) in
    let offset : ℤ = offset_at (plain_zone c.args.zone.now) (nanos_of_seconds (pos kept)) in
    let shown : civil_nanos c.to_datetime.result ≡ nanos_of_seconds (pos kept) +ℤ nanos_of_seconds offset =
    c.to_datetime.ensures ∙ ap (λ x. x +ℤ nanos_of_seconds (offset_at (plain_zone c.args.zone.now) x)) n in
    let plain : civil_nanos c.to_plain-shown.result ≡ (pos kept +ℤ offset) *ℤ pos 1_000_000_000 =
    ap civil_nanos c.to_plain-shown.ensures ∙ shown ∙ spread (pos kept) offset in
    let whole = whole_seconds c.to_plain-shown.result (pos kept +ℤ offset) plain in
    let day = day_is (epoch_day c.to_plain-shown.result.date) (pos kept +ℤ offset) (time_seconds c.to_plain-shown.result.time) whole.0 whole.2 in
    let second = second_is (epoch_day c.to_plain-shown.result.date) (pos kept +ℤ offset) (time_seconds c.to_plain-shown.result.time) whole.0 whole.2 in
    let first : c.weekday_number.result ≡ weekday_number (clock_day (pos kept +ℤ offset)) =
    c.weekday_number.ensures.value ∙ c.weekday.ensures ∙ ap weekday_number (sym day) in
    let last : c.second_number.result ≡ clock_second (pos kept +ℤ offset) = c.second_number.ensures ∙ sym second in
    both _ _ _ _ first last
  where
    spread : (a b : ℤ) → nanos_of_seconds a +ℤ nanos_of_seconds b ≡ (a +ℤ b) *ℤ pos 1_000_000_000
    spread a b = omega (arith, signed_arith)

    both : (a b x y : ℕ) → a ≡ x → b ≡ y → ◌≡◌ {A = ℕ × ℕ} (a, b) (x, y)
    both a b x y e f = λ i. (e i, f i)
