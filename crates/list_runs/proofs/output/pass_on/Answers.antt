use Rattle.std.proofs.Common.{ℕ, sym, subst}
use Rattle.room_reports.specs.Written.{IsWrittenOut}
use Rattle.list_runs.proofs.Outputs.{held_back}
use Rattle.list_runs.proofs.output.pass_on.Goals as goal

pub returns-in-Err : goal.returns-in-Err
returns-in-Err g c old bytes taken =
    let flushed = c.flush.ensures in
    subst (λ (n : ℕ). IsWrittenOut g.O.Sink.sink bytes old c.flush.new.self n) (sym c.number-in-Err.ensures)
    (held_back g.O.Sink.sink old c.args.output.now c.flush.new.self bytes taken flushed.told flushed.same c.in-Err.ensures.count.failed)
