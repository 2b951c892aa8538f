use Rattle.publish_workers.proofs.Receiving.{receivers_keep_pace, receivers_hold_all, receivers_answer, memory_drains_are_complete}
use Rattle.publish_workers.proofs.laws.memory_law.Goals as goal

pub returns-clause-pace : goal.returns-clause-pace
returns-clause-pace g c = receivers_keep_pace g.K.Keeper.keeper g.R.Keeper.keeper

pub returns-clause-all : goal.returns-clause-all
returns-clause-all g c = receivers_hold_all g.K.Keeper.keeper g.R.Keeper.keeper

pub returns-clause-answers : goal.returns-clause-answers
returns-clause-answers g c = receivers_answer g.K.Keeper.keeper g.R.Keeper.keeper

pub returns-clause-complete : goal.returns-clause-complete
returns-clause-complete g c = memory_drains_are_complete g.K.Keeper.keeper g.R.Keeper.keeper
