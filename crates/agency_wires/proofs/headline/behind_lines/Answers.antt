use Rattle.std.proofs.Common.{◌+◌, ◌-◌, ap, sym, ◌∙◌, arith}
use Rattle.agency_wires.specs.Headline.{behind}
use Rattle.agency_wires.proofs.Lines.{behind_on}
use Rattle.agency_wires.proofs.headline.behind_lines.Goals as goal

pub loop-preserved : goal.loop-preserved
loop-preserved c =
    let l = c.loop in
    ap (behind (c.args.count - (l.counter + 1))) c.next_line.ensures.back ∙ sym (behind_on c.args.count l.counter l.rest.now (omega arith)) ∙ l.invariant
