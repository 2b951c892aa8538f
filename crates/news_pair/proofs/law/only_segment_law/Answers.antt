use Rattle.news_pair.proofs.Filled.{segment_of}
use Rattle.news_pair.proofs.law.only_segment_law.Goals as goal

pub returns : goal.returns
returns c = segment_of
