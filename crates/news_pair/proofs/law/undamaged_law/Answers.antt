use Rattle.news_pair.proofs.Undamaged.{undamaged}
use Rattle.news_pair.proofs.law.undamaged_law.Goals as goal

pub returns : goal.returns
returns c = undamaged
