use Rattle.agency_wires.proofs.Named.{identity_tells}
use Rattle.agency_wires.proofs.laws.identity_law.Goals as goal

pub returns : goal.returns
returns c = identity_tells
