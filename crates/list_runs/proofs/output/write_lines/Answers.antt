use Rattle.list_runs.proofs.Outputs.{first_taken}
use Rattle.list_runs.proofs.output.write_lines.Goals as goal

pub returns-in-Err : goal.returns-in-Err
returns-in-Err g c =
    let cut = c.in-Err.ensures.err in
    first_taken g.O.Sink.sink c.args.output.now c.write_all.new.sink c.args.lines.now cut.0 c.write_all.ensures.told cut.2 c.in-Err.ensures.count.failed
