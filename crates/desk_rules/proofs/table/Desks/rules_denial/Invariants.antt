use Rattle.std.proofs.Common.{◌≡◌, drop}
use Rattle.std.specs.Prelude.{flat_map, filter}
use Rattle.news_types.specs.History.{History}
use Rattle.news_types.specs.Denial as denial
use Rattle.desk_rules.specs.Keeps.{KeepsFacts}
use Rattle.desk_rules.specs.Asked.{is_of_desks}
use Rattle.desk_rules.proofs.table.Desks.rules_denial.Given as goal

abbrev pub invariant-loop-rule : goal.invariant-loop-rule
invariant-loop-rule l = (h : History) → KeepsFacts l.fn.self h →
    denial.first_missing (filter is_of_desks (flat_map (denial.absent_in_rule h) (drop l.rule-index l.rules))) ≡ denial.first_missing (filter is_of_desks (flat_map (denial.absent_in_rule h) l.rules))
