use Rattle.program_events.proofs.Stores as stores
use Rattle.program_events.proofs.new_stores_are_empty.Goals as goal

pub returns : goal.returns
returns g c = stores.new_stores g.D.Disk.disk g.O.Sink.sink
