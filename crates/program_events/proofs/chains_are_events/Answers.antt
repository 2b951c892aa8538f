use Rattle.program_events.proofs.Chains as chains
use Rattle.program_events.proofs.chains_are_events.Goals as goal

pub returns : goal.returns
returns g c = chains.chains_are_events g.D.Disk.disk g.C.Clock.clock g.S.Source.source g.O.Sink.sink g.L.Link.link
