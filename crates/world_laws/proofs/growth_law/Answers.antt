use Rattle.world_laws.proofs.Growth.{nothing_is_lost}
use Rattle.world_laws.proofs.growth_law.Goals as goal

pub returns : goal.returns
returns c = nothing_is_lost
