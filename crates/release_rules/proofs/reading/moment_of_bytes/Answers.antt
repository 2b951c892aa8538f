use Rattle.std.proofs.Common.{rules, arith, to_z-of_z, FitsSigned, w64, ◌≡◌, ◌∙◌, ◌≤◌, ◌-ℤ◌, length, take, drop, Some}
use Rattle.jiff_core.proofs.SignedLemmas.{signed_arith}
use Rattle.release_rules.specs.Reader.{clock_seconds_of, behind_fraction, offset_at}
use Rattle.release_rules.proofs.Readings.{in_range-moment_of}
use Rattle.release_rules.proofs.reading.moment_of_bytes.Goals as goal

pub returns : goal.returns
returns c =
    let text = c.args.text.now in
    let rest = c.in_ok-after_fraction.field-0.now in
    let seconds = c.in_ok-seconds.seconds in
    let offset = c.in_ok-offset.offset in
    let long : 19 ≤ length text = search rules in
    let clock : clock_seconds_of (take 19 text) ≡ Some seconds = search rules in
    let zone : behind_fraction (drop 19 text) ≡ Some rest = search rules in
    let at : offset_at rest ≡ Some offset = search rules in
    let fits : FitsSigned w64 (seconds -ℤ offset) = omega (arith, signed_arith, c.in_ok-seconds.ensures.bound, c.in_ok-offset.ensures.bound) in
    let fits-seconds : FitsSigned w64 seconds = omega (arith, signed_arith, c.in_ok-seconds.ensures.bound) in
    let fits-offset : FitsSigned w64 offset = omega (arith, signed_arith, c.in_ok-offset.ensures.bound) in
    let wide : c.from.result ≡ offset = search rules in
    let fits-wide : FitsSigned w64 c.from.result = rw wide fits-offset in
    let fits-both : FitsSigned w64 (seconds -ℤ c.from.result) = rw wide fits in
    let shown = rw wide at simp to_z-of_z at c.moment_in_range.ensures in
    shown ∙ in_range-moment_of text rest seconds offset long clock zone at
