use Rattle.news_pair.proofs.Pairing.{lift_side}
use Rattle.news_pair.proofs.Packed.{end_bare, making_finds, making_holds}
use Rattle.news_pair.proofs.pair.Pair.with_side.Goals as goal

pub returns-clause-pairs : goal.returns-clause-pairs
returns-clause-pairs g c = λ h pairs. let none = c.requires.none in
    let disk = g.D.Disk.disk in
    let self = c.args.self in
    let bare = end_bare self.store (disk.seen self.side) (disk.may_leave self.side) self.end pairs.head.store_is pairs.side_is none in
    let made = c.in_default.ensures in
    let is = made.seen pairs.told bare in
    making_holds disk self.log self.side self.store self.base self.packed self.end h pairs none c.create_side.new.disk is.0 (c.create_side.ensures.told pairs.told) is.1 (made.durable pairs.told)

pub returns-clause-crash : goal.returns-clause-crash
returns-clause-crash g c = λ h pairs shut. let none = c.requires.none in
    let disk = g.D.Disk.disk in
    let self = c.args.self in
    let bare = end_bare self.store (disk.seen self.side) (disk.may_leave self.side) self.end pairs.head.store_is pairs.side_is none in
    lift_side disk self.store self.log.disk self.side c.create_side.new.disk _ _ _ _ (c.create_side.ensures.crash pairs.told pairs.synced bare)
    (making_finds disk self.log self.side self.store self.base self.packed self.end h pairs shut none)

pub returns-in-Err-clause-crash_err : goal.returns-in-Err-clause-crash_err
returns-in-Err-clause-crash_err g c = λ h pairs shut. let none = c.requires.none in
    let disk = g.D.Disk.disk in
    let self = c.args.self in
    let bare = end_bare self.store (disk.seen self.side) (disk.may_leave self.side) self.end pairs.head.store_is pairs.side_is none in
    lift_side disk self.store self.log.disk self.side c.create_side.new.disk _ _ _ _ (c.create_side.ensures.crash pairs.told pairs.synced bare)
    (making_finds disk self.log self.side self.store self.base self.packed self.end h pairs shut none)
