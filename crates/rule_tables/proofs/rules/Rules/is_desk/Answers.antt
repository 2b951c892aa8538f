use Rattle.rule_tables.proofs.rules.Rules.is_desk.Goals as goal

pub returns : goal.returns
returns c h keeps = c.is_desk.ensures h keeps.desks
