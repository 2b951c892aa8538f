use Rattle.std.proofs.Common.{◌≡◌, drop}
use Rattle.std.specs.Prelude.{flat_map}
use Rattle.news_types.specs.History.{History}
use Rattle.news_types.specs.Denial.{first_missing, absent_in_rule}
use Rattle.rule_tables.specs.Keeps.{KeepsRules}
use Rattle.rule_tables.proofs.rules.Rules.unknown_in.Given as goal

abbrev pub invariant-loop-rule : goal.invariant-loop-rule
invariant-loop-rule l =
    (h : History) → KeepsRules l.fn.self h → first_missing (flat_map (absent_in_rule h) (drop l.rule-index l.rules)) ≡ first_missing (flat_map (absent_in_rule h) l.rules)
