use Rattle.news_io.specs.Devices.{memory_keeper}
use Rattle.feed_drill.proofs.Empty.{opened_empty}
use Rattle.feed_drill.proofs.delivery.empty_receiver.Goals as goal

pub returns-in-Ok : goal.returns-in-Ok
returns-in-Ok c = opened_empty memory_keeper c.new.result c.args.name c.in-Ok.receiver c.in-Ok.ensures.opened
