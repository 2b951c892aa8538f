use Rattle.std.proofs.Common.{rules, length, arith, ap, refl}
use Rattle.store_files.proofs.Stores.{not_room, early, is_room, no_room}
use Rattle.store_files.proofs.store.room_of.Goals as goal

pub returns-in_default-clause-none : goal.returns-in_default-clause-none
returns-in_default-clause-none g c = (ap (λ both. both.0) c.into_disks-log.ensures, ap (λ both. both.1) c.into_disks-log.ensures, not_room c.args.opened.header c.args.opened.records c.in_default.not-Room)

pub open-requires-clause-few : goal.open-requires-clause-few
open-requires-clause-few g c = omega (arith, ap length c.as_slice.ensures, c.requires.few.count)

pub open-requires-clause-places : goal.open-requires-clause-places
open-requires-clause-places g c = early c.args.opened.records c.as_slice.result.now c.as_slice.ensures c.requires.few.at

pub returns-in-Ok-clause-room : goal.returns-in-Ok-clause-room
returns-in-Ok-clause-room g c = record {
  room = is_room c.args.opened c.in-Room.store c.as_slice.result.now c.in-Room.is c.as_slice.ensures
      g.D.Disk.disk c.in-Ok.room (search rules) c.in-Ok.ensures;
  few = omega (arith, c.requires.few.count);
  places = early c.args.opened.records c.args.opened.records refl c.requires.few.at;
  records_are = refl;
}

pub returns-in-Err-clause-none : goal.returns-in-Err-clause-none
returns-in-Err-clause-none g c =
    let given = c.in-Err.ensures in
    no_room c.args.opened c.in-Room.store c.as_slice.result.now c.in-Room.is c.as_slice.ensures
    c.in-Err.pair c.in-Err.fault c.into_disks-log-in-Err.result c.from.result (search rules) c.into_disks-log-in-Err.ensures c.from.ensures given.0 given.1
