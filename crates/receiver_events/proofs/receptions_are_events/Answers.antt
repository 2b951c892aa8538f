use Rattle.receiver_events.proofs.Receiving as receiving
use Rattle.receiver_events.proofs.receptions_are_events.Goals as goal

pub returns : goal.returns
returns g c = receiving.receptions_are_events g.D.Disk.disk g.S.Source.source g.O.Sink.sink
