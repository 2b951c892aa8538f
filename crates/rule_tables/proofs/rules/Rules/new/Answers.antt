use Rattle.rule_tables.proofs.rules.Rules.new.Goals as goal

pub returns : goal.returns
returns c = record { desks = c.in_ok-new.ensures; filters = c.in_ok-new-2.ensures; products = c.in_ok-new-3.ensures; sources = c.new-4.ensures; rolls = c.in_ok-new-4.ensures }
