use Rattle.std.proofs.Common.{◌+◌, ◌-◌, ap, sym, ◌∙◌, arith}
use Rattle.agency_wires.specs.Headline.{further}
use Rattle.agency_wires.proofs.Lines.{stops, goes_on}
use Rattle.agency_wires.proofs.headline.further_lines.Goals as goal

pub returns-then-ends_with_mark : goal.returns-then-ends_with_mark
returns-then-ends_with_mark c =
    let l = c.loop-seen in
    sym (stops l.seen l.rest.now c.next_line.result.0.now c.ends_with_mark.result (omega arith) c.next_line.ensures.front c.ends_with_mark.ensures c.if-ends_with_mark.true) ∙ l.invariant

pub loop-seen-preserved : goal.loop-seen-preserved
loop-seen-preserved c =
    let l = c.loop-seen in
    ap (further (l.seen + 1) (4 - (l.seen + 1))) c.next_line.ensures.back
    ∙ sym (goes_on l.seen l.rest.now c.next_line.result.0.now c.ends_with_mark.result (omega arith) c.next_line.ensures.front c.ends_with_mark.ensures c.if-ends_with_mark.false) ∙ l.invariant
