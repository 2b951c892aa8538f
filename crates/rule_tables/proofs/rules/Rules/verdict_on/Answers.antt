use Rattle.products.proofs.Changed.{if_ok_map}
use Rattle.rule_tables.proofs.rules.Rules.verdict_on.Goals as goal

pub returns : goal.returns
returns c = if_ok_map c.verdict.result _ _ (λ told said h story keeps judged. said h story keeps.products judged) c.verdict.ensures
