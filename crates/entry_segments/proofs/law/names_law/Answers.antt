use Rattle.entry_segments.proofs.Fitting.{names_of_ascend}
use Rattle.entry_segments.proofs.law.names_law.Goals as goal

pub returns : goal.returns
returns c = names_of_ascend
