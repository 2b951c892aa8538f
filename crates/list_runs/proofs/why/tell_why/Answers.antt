use Rattle.list_runs.proofs.Outputs.{once_given}
use Rattle.list_runs.proofs.why.tell_why.Goals as goal

pub returns : goal.returns
returns g c h stands are =
    c.end.ensures c.args.output.now _ (once_given g.O.Sink.sink _ c.args.output.now c.write_why-written.new.output c.write_why-written.result (c.write_why-written.ensures h stands are))
