use Rattle.news_io.specs.Devices.{memory_keeper}
use Rattle.feed_drill.proofs.Opened.{opened_none}
use Rattle.feed_drill.proofs.drill.open_room.Goals as goal

pub returns-in-Ok : goal.returns-in-Ok
returns-in-Ok c = opened_none memory_keeper c.new.result c.nil.result c.in-Ok.room c.in-Ok.ensures
