use Rattle.std.proofs.Common.{ap, ◌∙◌, FitsSigned, w32, to_z-of_z}
use Rattle.jiff_tz.specs.Zone.{offset_at}
use Rattle.jiff.proofs.ZoneFacts.{offset_at-fixed_zone}
use Rattle.routing_rules.proofs.zone.fixed_zone.Goals as goal

pub returns : goal.returns
returns c n =
    let fits : FitsSigned w32 c.args.seconds = c.ranges.seconds in
    ap (λ zone. offset_at zone n) c.fixed.ensures ∙ offset_at-fixed_zone c.in-Ok.offset n ∙ c.in-Ok.ensures.value ∙ to_z-of_z fits
