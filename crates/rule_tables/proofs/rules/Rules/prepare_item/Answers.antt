use Rattle.rule_tables.proofs.rules.Rules.prepare_item.Goals as goal

pub returns-in_err-desks-clause-stays : goal.returns-in_err-desks-clause-stays
returns-in_err-desks-clause-stays c h keeps = record { desks = c.prepare_item.ensures.stays h keeps.desks; filters = keeps.filters; products = keeps.products; sources = keeps.sources; rolls = keeps.rolls }

pub returns-clause-stays : goal.returns-clause-stays
returns-clause-stays c h keeps = record { desks = c.prepare_item.ensures.stays h keeps.desks; filters = keeps.filters; products = keeps.products; sources = keeps.sources; rolls = keeps.rolls }
