use Rattle.drain_laws.proofs.Quiet.{links_are_complete}
use Rattle.drain_laws.proofs.drain_completeness_law.Goals as goal

pub returns : goal.returns
returns g c = links_are_complete g.K.Keeper.keeper g.C.Clock.clock g.O.Sink.sink g.L.Link.link c.completeness_law.ensures.receipts c.links_law.ensures
