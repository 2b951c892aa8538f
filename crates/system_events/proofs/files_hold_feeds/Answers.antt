use Rattle.system_events.proofs.Systems as systems
use Rattle.system_events.proofs.files_hold_feeds.Goals as goal

pub returns : goal.returns
returns g c = systems.files_hold_feeds g.D.Disk.disk g.C.Clock.clock g.S.Source.source g.O.Sink.sink g.L.Link.link
