use Rattle.std.proofs.Common.{◌∙◌, arith}
use Rattle.desk_rules.proofs.Named.{step_over, stop_at}
use Rattle.desk_rules.proofs.table.Desks.rules_denial.Goals as goal

pub returns-in-Some : goal.returns-in-Some
returns-in-Some c h keeps =
    stop_at h c.args.rules.now c.loop-rule.rule-index c.rule-item.result c.in-Some.denial (omega arith) c.rule-item.is (c.in-Some.ensures h keeps)
    ∙ c.loop-rule.invariant h keeps

pub loop-rule-preserved : goal.loop-rule-preserved
loop-rule-preserved c h keeps =
    step_over h c.args.rules.now c.loop-rule.rule-index c.rule-item.result (omega arith) c.rule-item.is (c.in_default.ensures h keeps)
    ∙ c.loop-rule.invariant h keeps
