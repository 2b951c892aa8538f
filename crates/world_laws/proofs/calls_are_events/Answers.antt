use Rattle.world_laws.proofs.Bridge as bridge
use Rattle.world_laws.proofs.calls_are_events.Goals as goal

pub returns : goal.returns
returns c = bridge.calls_are_events
