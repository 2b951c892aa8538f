use Rattle.news_pair.proofs.Filled.{segment_is}
use Rattle.news_pair.proofs.law.segment_law.Goals as goal

pub returns : goal.returns
returns c = segment_is
