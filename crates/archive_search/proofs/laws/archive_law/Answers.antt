use Rattle.archive_search.proofs.Judging.{as_spelled}
use Rattle.archive_search.proofs.laws.archive_law.Goals as goal

pub returns : goal.returns
returns c = as_spelled
