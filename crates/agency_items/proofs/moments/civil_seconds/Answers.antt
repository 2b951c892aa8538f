use Rattle.std.proofs.Common.{rules, ◌≡◌, arith, ap, ◌∙◌, subst, to_z-of_z, FitsSigned, w64, Some}
use Rattle.std.specs.Prelude.{ℕ, pos}
use Rattle.jiff_core.specs.DateTime.{civil_seconds}
use Rattle.jiff_core.specs.declared.civil.datetime.DateTime.{DateTime}
use Rattle.jiff_core.proofs.SignedLemmas.{signed_arith, signed_casts}
use Rattle.release_rules.specs.Civil.{civil, IsCivil, seconds_of}
use Rattle.release_rules.proofs.Civils.{parts_of, civil_parts, civil_value, seconds_at-some, seconds_at-none}
use Rattle.agency_items.proofs.moments.civil_seconds.Goals as goal

same : (dt : DateTime) (y m d h mi s : ℕ) (is : dt.date.year ≡ pos y) → dt.date.month ≡ m → dt.date.day ≡ d → dt.time.hour ≡ h → dt.time.minute ≡ mi → dt.time.second ≡ s
    → parts_of dt y is ≡ civil y m d h mi s
same dt y m d h mi s is em ed eh emi es = λ i. civil y (em i) (ed i) (eh i) (emi i) (es i)

pub returns-in-Ok-clause-value : goal.returns-in-Ok-clause-value
returns-in-Ok-clause-value c =
    let dt = c.in-Ok.shown in
    let ymd = c.in-Ok.ensures.value.0 in
    let hms = c.in-Ok.ensures.value.1 in
    let y : dt.date.year ≡ pos c.args.clock.year = omega (arith, signed_casts, ymd.0, c.requires) in
    let all = same dt c.args.clock.year c.args.clock.month c.args.clock.day c.args.clock.hour c.args.clock.minute c.args.clock.second y
    (omega (arith, signed_casts, ymd.1, c.requires)) (omega (arith, signed_casts, ymd.2, c.requires))
    (omega (arith, signed_casts, hms.0, c.requires)) (omega (arith, signed_casts, hms.1, c.requires)) (omega (arith, signed_casts, hms.2, c.requires)) in
    let value : c.to_second.result ≡ civil_seconds dt = c.to_second.ensures.value ∙ ap civil_seconds c.to_plain.ensures in
    let fits : FitsSigned w64 c.to_second.result = omega (arith, signed_arith, c.to_second.ensures.bound) in
    let seconds = to_z-of_z fits ∙ value ∙ civil_value dt c.args.clock.year y ∙ ap seconds_of all in
    let shown = subst IsCivil all (civil_parts dt c.args.clock.year y) in
    ap Some seconds ∙ seconds_at-some _ shown

pub returns-in-Err-clause-value : goal.returns-in-Err-clause-value
returns-in-Err-clause-value c =
    let isnt : IsCivil (civil c.args.clock.year c.args.clock.month c.args.clock.day c.args.clock.hour c.args.clock.minute c.args.clock.second) → ⊥ = search rules in
    seconds_at-none _ isnt
