use Rattle.std.proofs.Common.{take, sym, subst, refl}
use Rattle.agency_wires.specs.Machine.{Leads}
use Rattle.agency_wires.proofs.Places.{line_near}
use Rattle.agency_wires.proofs.reach.quiet_len.Goals as goal

pub returns-in-Info-clause-leads : goal.returns-in-Info-clause-leads
returns-in-Info-clause-leads c =
    let bytes = c.args.bytes.now in
    let n = c.line_len.result in
    subst (λ p. Leads p (take n bytes) p) (sym c.in-Info.is) (line_near (take c.min.result bytes) bytes c.min.result n refl c.line_len.ensures.within c.line_len.ensures.value)
