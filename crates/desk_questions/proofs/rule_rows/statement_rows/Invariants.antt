use Rattle.std.proofs.Common.{◌≡◌, map, take}
use Rattle.told_objects.specs.Seen.{seen}
use Rattle.desk_questions.specs.Rows.{statement_row}
use Rattle.desk_questions.proofs.rule_rows.statement_rows.Given as goal

abbrev pub invariant-loop-statement : goal.invariant-loop-statement
invariant-loop-statement l = map seen l.rows.items ≡ map statement_row (take l.statement-index l.statements)
