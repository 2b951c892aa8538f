use Rattle.news_io.proofs.Kept.{kept_more}
use Rattle.news_io.proofs.memory_keeper.MemoryKeeperKeeper.append.Goals as goal

pub returns-clause-crash : goal.returns-clause-crash
returns-clause-crash c = λ told. kept_more _ _ _ c.in_default-add.ensures.ok _ _
