use Rattle.wire_bodies.proofs.Alike.{ingested}
use Rattle.wire_bodies.proofs.laws.members_law.Goals as goal

pub returns : goal.returns
returns c = ingested
