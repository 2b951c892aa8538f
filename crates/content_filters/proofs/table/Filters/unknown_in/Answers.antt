use Rattle.std.proofs.Common.{sym, ◌∙◌, arith}
use Rattle.content_filters.proofs.Absent.{step_over, stop_at}
use Rattle.content_filters.proofs.table.Filters.unknown_in.Goals as goal

pub returns-in-Some : goal.returns-in-Some
returns-in-Some c =
    stop_at c.args.self.now c.args.filter.now c.args.statements.now c.loop-statement.statement-index c.statement-item.result c.in-Some.thing (omega arith) c.statement-item.is c.in-Some.ensures
    ∙ c.loop-statement.invariant

pub loop-statement-preserved : goal.loop-statement-preserved
loop-statement-preserved c =
    sym (step_over c.args.self.now c.args.filter.now c.args.statements.now c.loop-statement.statement-index c.statement-item.result (omega arith) c.statement-item.is (sym c.in_default.is ∙ c.unknown_in_statement.ensures))
    ∙ c.loop-statement.invariant
