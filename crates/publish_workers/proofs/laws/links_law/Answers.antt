use Rattle.publish_workers.proofs.AllDelivering.{links_are_delivered}
use Rattle.publish_workers.proofs.laws.links_law.Goals as goal

pub returns : goal.returns
returns g c = links_are_delivered g.K.Keeper.keeper g.C.Clock.clock g.O.Sink.sink g.L.Link.link
