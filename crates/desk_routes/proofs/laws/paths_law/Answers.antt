use Rattle.desk_routes.proofs.PathLaws.{parts_come_back, numbers_are_decimals}
use Rattle.desk_routes.proofs.laws.paths_law.Goals as goal

pub returns-clause-parts : goal.returns-clause-parts
returns-clause-parts c = parts_come_back

pub returns-clause-numbers : goal.returns-clause-numbers
returns-clause-numbers c = numbers_are_decimals
