use Rattle.std.proofs.Common.{◌∙◌}
use Rattle.feed_drill.specs.Report.{drill_report}
use Rattle.feed_drill.proofs.Drilled.{prints_first}
use Rattle.feed_drill.proofs.drill.run_drill.Goals as goal

pub returns-clause-drilled : goal.returns-clause-drilled
returns-clause-drilled g c =
    let d = c.in-Ok.ensures.report in
    let e = c.in-Err.ensures in (
      d.0,
      d.1,
      d.2,
      prints_first g.O.Sink.sink c.args.output.now c.write_through.new.sink c.as_slice.result.now (drill_report d.0 d.1) e.err.0 (c.as_slice.ensures ∙ d.3)
          e.count.failed c.write_through.ensures.told e.err.2,
    )
