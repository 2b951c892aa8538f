use Rattle.news_room.proofs.Rooms.{place_left}
use Rattle.news_room.proofs.room.Room.newsroom.Goals as goal

pub returns-clause-stands_for : goal.returns-clause-stands_for
returns-clause-stands_for g c b stands = stands.machine_for

pub returns-clause-store : goal.returns-clause-store
returns-clause-store g c b stands = stands.store_is

pub returns-clause-stands : goal.returns-clause-stands
returns-clause-stands g c some = let stands = some.1 in (some.0.list, (stands.machine_for, place_left _ _ stands.few))
