use Rattle.products.proofs.Changed.{if_ok_map}
use Rattle.rule_tables.proofs.rules.Rules.judge_story.Goals as goal

pub returns : goal.returns
returns c = if_ok_map c.verdicts.result _ _ (λ verdicts said h keeps. record { rules = keeps.filters; said = said h keeps.filters }) c.verdicts.ensures
