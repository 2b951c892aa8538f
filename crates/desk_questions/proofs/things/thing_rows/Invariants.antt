use Rattle.std.proofs.Common.{◌≡◌, map, take}
use Rattle.news_types.specs.History.{History}
use Rattle.rule_tables.specs.Keeps.{KeepsRules}
use Rattle.told_objects.specs.Seen.{seen}
use Rattle.desk_questions.specs.Things.{thing_row}
use Rattle.desk_questions.proofs.things.thing_rows.Given as goal

abbrev pub invariant-loop-name : goal.invariant-loop-name
invariant-loop-name l = (h : History) → KeepsRules l.rules h → map seen l.rows.items ≡ map (thing_row h l.of) (take l.name-index l.names)
