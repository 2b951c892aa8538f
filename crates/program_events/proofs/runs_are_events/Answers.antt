use Rattle.program_events.proofs.Runs as runs
use Rattle.program_events.proofs.runs_are_events.Goals as goal

pub returns : goal.returns
returns g c = runs.runs_are_events g.D.Disk.disk g.C.Clock.clock g.S.Source.source g.O.Sink.sink g.L.Link.link
