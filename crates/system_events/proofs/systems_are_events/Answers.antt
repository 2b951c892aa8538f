use Rattle.system_events.proofs.Systems as systems
use Rattle.system_events.proofs.systems_are_events.Goals as goal

pub returns : goal.returns
returns g c = systems.systems_are_events g.D.Disk.disk g.C.Clock.clock g.S.Source.source g.O.Sink.sink g.L.Link.link
