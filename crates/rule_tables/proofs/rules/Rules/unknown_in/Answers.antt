use Rattle.std.proofs.Common.{sym, ◌∙◌, arith}
use Rattle.rule_tables.proofs.Absent.{step_over, stop_at}
use Rattle.rule_tables.proofs.rules.Rules.unknown_in.Goals as goal

pub returns-in-Some : goal.returns-in-Some
returns-in-Some c h keeps =
    stop_at h c.args.rules.now c.loop-rule.rule-index c.rule-item.result c.in-Some.thing (omega arith) c.rule-item.is (sym c.in-Some.is ∙ c.unknown_in_rule.ensures h keeps)
    ∙ c.loop-rule.invariant h keeps

pub loop-rule-preserved : goal.loop-rule-preserved
loop-rule-preserved c h keeps =
    sym (step_over h c.args.rules.now c.loop-rule.rule-index c.rule-item.result (omega arith) c.rule-item.is (sym c.in_default.is ∙ c.unknown_in_rule.ensures h keeps))
    ∙ c.loop-rule.invariant h keeps
