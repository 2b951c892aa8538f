use Rattle.agency_runs.proofs.FaultPlaces.{fault_near}
use Rattle.agency_runs.proofs.laws.place_law.Goals as goal

pub returns : goal.returns
returns c = fault_near
