use Rattle.standby_laws.proofs.Stops.{stops_are_events}
use Rattle.standby_laws.proofs.stops_law.Goals as goal

pub returns : goal.returns
returns g c = stops_are_events g.K.Keeper.keeper
