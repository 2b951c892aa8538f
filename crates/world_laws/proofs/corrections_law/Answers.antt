use Rattle.world_laws.proofs.Behind.{corrections_follow, kills_end}
use Rattle.world_laws.proofs.corrections_law.Goals as goal

pub returns-clause-behind : goal.returns-clause-behind
returns-clause-behind c = corrections_follow

pub returns-clause-end : goal.returns-clause-end
returns-clause-end c = kills_end
