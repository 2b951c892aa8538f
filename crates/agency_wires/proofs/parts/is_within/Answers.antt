use Rattle.std.proofs.Common.{◌-◌, ◌/◌, ◌≤◌, length, sym, subst}
use Rattle.agency_wires.proofs.Wide.{few_within}
use Rattle.agency_wires.proofs.parts.is_within.Goals as goal

pub returns-then-wide_count-most : goal.returns-then-wide_count-most
returns-then-wide_count-most c =
    let told = c.args.told.now in
    sym (few_within c.args.most told c.if-told-most.true (subst (λ n. n ≤ (c.args.most - length told) / 3) c.wide_count.ensures c.if-wide_count-most.true))
