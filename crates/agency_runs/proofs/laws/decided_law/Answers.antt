use Rattle.agency_runs.proofs.Decides.{decided_is_most}
use Rattle.agency_runs.proofs.laws.decided_law.Goals as goal

pub returns : goal.returns
returns c = decided_is_most
