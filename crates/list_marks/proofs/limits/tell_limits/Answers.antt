use Rattle.std.proofs.Common.{ℕ, sym, subst}
use Rattle.room_reports.specs.Written.{IsWrittenOut}
use Rattle.list_marks.specs.Limits.{limits_lines}
use Rattle.list_marks.proofs.Writing.{starved}
use Rattle.list_marks.proofs.limits.tell_limits.Goals as goal

pub returns-in-Err : goal.returns-in-Err
returns-in-Err g c b stands =
    let lines = limits_lines b.list (g.K.Keeper.keeper.used c.args.room.now.keeper) in
    let new = c.tell_status.new.output in
    subst (λ (n : ℕ). IsWrittenOut g.O.Sink.sink lines c.args.output.now new n) (sym c.tell_status.ensures.number)
    (starved g.O.Sink.sink c.args.output.now new lines c.tell_status.ensures.told)
