use Rattle.std.proofs.Common.{rules, sym}
use Rattle.std.proofs.lemmas.Iterator.{empty_from_Zip}
use Rattle.std.proofs.lemmas.Slice.Zip.{AllZip-long}
use Rattle.routing_rules.proofs.routing.Routes.actions.Goals as goal

pub returns : goal.returns
returns c =
    let spent = empty_from_Zip _ c.next.new.self _ c.in-None.is c.next.ensures.steps (sym (AllZip-long _ _ _ c.loop-rule.invariant.0)) in
    search rules
