use Rattle.std.proofs.Common.{◌∙◌}
use Rattle.publish_workers.proofs.Draining.{prints_cut}
use Rattle.publish_workers.proofs.drain.write_report.Goals as goal

pub returns-clause-writes : goal.returns-clause-writes
returns-clause-writes g c = λ told.
    let e = c.in-Err.ensures in
    prints_cut g.O.Sink.sink c.args.output.now c.write_through.new.sink c.as_slice.result.now _ e.err.0 (c.as_slice.ensures ∙ c.in-Ok.ensures) (e.told told) (e.err.2 told)
