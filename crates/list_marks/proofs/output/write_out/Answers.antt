use Rattle.std.proofs.Common.{ℕ, sym, subst}
use Rattle.room_reports.specs.Written.{IsWrittenOut}
use Rattle.list_marks.proofs.Writing.{whole, cut}
use Rattle.list_marks.proofs.output.write_out.Goals as goal

pub returns-in-Ok-clause-written : goal.returns-in-Ok-clause-written
returns-in-Ok-clause-written g c =
    let lines = c.args.lines.now in
    let new = c.write_through.new.sink in
    let wrote = c.in-Ok.ensures in
    subst (λ (n : ℕ). IsWrittenOut g.O.Sink.sink lines c.args.output.now new n) (sym c.number.ensures)
    (whole g.O.Sink.sink c.args.output.now new lines wrote.told wrote.ok wrote.passed wrote.count.calm)

pub returns-in-Err-clause-written : goal.returns-in-Err-clause-written
returns-in-Err-clause-written g c =
    let lines = c.args.lines.now in
    let new = c.write_through.new.sink in
    let wrote = c.in-Err.ensures in
    subst (λ (n : ℕ). IsWrittenOut g.O.Sink.sink lines c.args.output.now new n) (sym c.number-in-Err.ensures)
    (cut g.O.Sink.sink c.args.output.now new lines wrote.err.0 wrote.told wrote.err.2 wrote.count.failed)
