use Rattle.std.proofs.Common.{◌∙◌, arith}
use Rattle.agency_wires.proofs.Lines.{put_on}
use Rattle.agency_wires.proofs.headline.put_lines.Goals as goal

pub loop-preserved : goal.loop-preserved
loop-preserved c =
    let l = c.loop in
    put_on c.args.count l.counter l.rest.now l.out.items c.push.new.self.items c.extend_from_slice.new.self.items c.next_line.result.0.now c.without_mark.result.now c.next_line.result.1.now (omega arith)
    c.in_ok-push.ensures.items c.in_ok-extend_from_slice.ensures.items c.without_mark.ensures c.next_line.ensures.front c.next_line.ensures.back
    ∙ l.invariant
