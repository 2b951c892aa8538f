use Rattle.news_pair.proofs.Undamaged.{packable}
use Rattle.news_pair.proofs.law.packable_law.Goals as goal

pub returns : goal.returns
returns c = λ store log side es long each in_time o. packable store log side es long each o in_time
