use Rattle.wire_run.proofs.Decides.{decided_is_most}
use Rattle.wire_run.proofs.laws.decided_law.Goals as goal

pub returns : goal.returns
returns c = decided_is_most
