use Rattle.std.proofs.Common.{rules, arith, to_z-of_z, FitsSigned, w64, ◌≡◌, ◌∙◌, ◌≤◌, ◌-ℤ◌, length, take, drop, Some}
use Rattle.jiff_core.proofs.SignedLemmas.{signed_arith}
use Rattle.agency_items.specs.Moments.{second_at, behind_second, clock_seconds_of, zone_at}
use Rattle.agency_items.proofs.TextMoments.{from_1970-moment_of}
use Rattle.agency_items.proofs.moments.moment_of.Goals as goal

pub returns-clause-value : goal.returns-clause-value
returns-clause-value c =
    let text = c.args.text.now in
    let rest = c.in_ok-zone.zone.now in
    let second = c.in_ok-second.second in
    let seconds = c.in_ok-seconds.seconds in
    let offset = c.in_ok-offset.offset in
    let long : 16 ≤ length text = search rules in
    let at : second_at (drop 16 text) ≡ Some second = search rules in
    let clock : clock_seconds_of (take 16 text) (Some second) ≡ Some seconds = search rules in
    let zone : behind_second (drop 16 text) ≡ Some rest = search rules in
    let ahead : zone_at rest ≡ Some offset = search rules in
    let fits : FitsSigned w64 (seconds -ℤ offset) = omega (arith, signed_arith, c.in_ok-seconds.ensures.bound, c.in_ok-offset.ensures.bound) in
    let fits-seconds : FitsSigned w64 seconds = omega (arith, signed_arith, c.in_ok-seconds.ensures.bound) in
    let fits-offset : FitsSigned w64 offset = omega (arith, signed_arith, c.in_ok-offset.ensures.bound) in
    let wide : c.from.result ≡ offset = search rules in
    let fits-wide : FitsSigned w64 c.from.result = rw wide fits-offset in
    let fits-both : FitsSigned w64 (seconds -ℤ c.from.result) = rw wide fits in
    let shown = rw wide at simp to_z-of_z at c.from_1970.ensures.value in
    shown ∙ from_1970-moment_of text rest second seconds offset long at clock zone ahead
