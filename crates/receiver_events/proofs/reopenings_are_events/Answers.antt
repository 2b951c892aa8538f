use Rattle.receiver_events.proofs.Reopening as reopening
use Rattle.receiver_events.proofs.reopenings_are_events.Goals as goal

pub returns-clause-left : goal.returns-clause-left
returns-clause-left g c = reopening.reopenings_are_events g.D.Disk.disk g.S.Source.source g.O.Sink.sink

pub returns-clause-next : goal.returns-clause-next
returns-clause-next g c = reopening.runs_begin_reopened g.D.Disk.disk g.S.Source.source g.O.Sink.sink
