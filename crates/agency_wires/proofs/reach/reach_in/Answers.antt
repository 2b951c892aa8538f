use Rattle.std.proofs.Common.{◌+◌, sym, subst, ap, arith, refl, get_or, take, length, length-drop}
use Rattle.std.proofs.lemmas.List.{take_rest}
use Rattle.agency_wires.specs.Machine.{Leads}
use Rattle.agency_wires.proofs.Ahead.{leads_on, leads_past, turn_on}
use Rattle.agency_wires.proofs.reach.reach_in.Goals as goal

pub loop-at-preserved : goal.loop-at-preserved
loop-at-preserved c =
    let at = c.loop-at.at in
    let piece = c.args.piece.now in
    let b = get_or piece at 0 in
    let on = sym c.in-On.ensures in
    let two = turn_on c.loop-at.phase c.in-On.next (c.args.held + at) b on in
    let one = leads_on c.args.start c.loop-at.phase c.in-On.next piece at c.args.held b (omega arith) refl c.loop-at.invariant.leads on in
    let rest = take_rest piece (at + 1) in
    record {
      leads = leads_past c.args.start c.in-On.next piece (at + 1) c.quiet_len-at.result one (subst (λ z. Leads c.in-On.next (take c.quiet_len-at.result z) c.in-On.next) rest c.quiet_len-at.ensures.leads);
      few = omega (arith, two.2, c.loop-at.invariant.few, c.quiet_len-at.ensures.few);
      within = omega (arith, c.quiet_len-at.ensures.within, ap length rest, length-drop (at + 1) piece);
    }
