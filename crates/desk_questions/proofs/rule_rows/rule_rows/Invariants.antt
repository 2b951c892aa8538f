use Rattle.std.proofs.Common.{◌≡◌, map, take}
use Rattle.told_objects.specs.Seen.{seen}
use Rattle.desk_questions.specs.Rows.{rule_row}
use Rattle.desk_questions.proofs.rule_rows.rule_rows.Given as goal

abbrev pub invariant-loop-rule : goal.invariant-loop-rule
invariant-loop-rule l = map seen l.rows.items ≡ map rule_row (take l.rule-index l.rules)
