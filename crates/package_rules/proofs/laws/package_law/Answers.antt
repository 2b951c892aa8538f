use Rattle.package_rules.proofs.Packages.{due_to_readers, members_come_first}
use Rattle.package_rules.proofs.Retries.{not_twice, out_of_turn}
use Rattle.package_rules.proofs.laws.package_law.Goals as goal

pub returns-clause-due : goal.returns-clause-due
returns-clause-due c = due_to_readers

pub returns-clause-first : goal.returns-clause-first
returns-clause-first c = members_come_first

pub returns-clause-retries : goal.returns-clause-retries
returns-clause-retries c = not_twice

pub returns-clause-older : goal.returns-clause-older
returns-clause-older c = out_of_turn
