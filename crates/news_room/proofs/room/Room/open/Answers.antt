use Rattle.std.proofs.Common.{refl}
use Rattle.news_room.proofs.Openings.{opened}
use Rattle.news_room.proofs.room.Room.open.Goals as goal

pub returns-in-Ok : goal.returns-in-Ok
returns-in-Ok g c =
    let read = c.in-Ok.ensures in
    opened g.K.Keeper.keeper c.args.keeper c.args.store c.args.records.now _ read.reads.0 refl read.store c.requires.few read.reads.1
