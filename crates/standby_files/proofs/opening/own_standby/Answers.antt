use Rattle.std.proofs.Common.{◌≡◌, rules, ap}
use Rattle.news_pair.specs.Stands.{log_disk, side_disk}
use Rattle.news_pair.specs.Keeper.{pair_of}
use Rattle.room_standby.specs.Holds.{OpensTo}
use Rattle.store_files.specs.declared.trouble.Trouble.TheVariants.{Memory}
use Rattle.standby_files.specs.Kinds.{IsOwnRefused, IsOwnStandby}
use Rattle.standby_files.proofs.Own.{own_standby, other_refused, memory_refused}
use Rattle.standby_files.proofs.Second.{if_ok, if_err}
use Rattle.standby_files.proofs.opening.own_standby.Goals as goal

pub returns-then-ne-clause-refused : goal.returns-then-ne-clause-refused
returns-then-ne-clause-refused g c log side a =
    other_refused g.D.Disk.disk c.args.store log side c.args.listed a c.into_disks-log.result.0 c.into_disks-log.result.1 (ap (λ both. both.0) c.into_disks-log.ensures) (ap (λ both. both.1) c.into_disks-log.ensures) (search rules)

pub returns-clause-opened : goal.returns-clause-opened
returns-clause-opened g c log side a =
    let d = g.D.Disk.disk in
    if_ok (OpensTo (pair_of d) c.args.listed.pair c.as_slice.result.now) (IsOwnStandby d c.args.store log side) c.standby_of.result
    (λ s o. own_standby d c.args.store log side c.args.listed a (search rules) c.as_slice.result.now c.as_slice.ensures s o) c.standby_of.ensures.opened

pub returns-clause-refused : goal.returns-clause-refused
returns-clause-refused g c log side a =
    let d = g.D.Disk.disk in
    if_err (λ e. (e.0 ≡ log_disk c.args.listed.pair) × (e.1 ≡ side_disk c.args.listed.pair) × (e.2 ≡ Memory)) (λ e. IsOwnRefused d c.args.store log side e.0 e.1 e.2) c.standby_of.result
    (λ e was. memory_refused d c.args.store log side c.args.listed a e.0 e.1 e.2 was.0 was.1 was.2) c.standby_of.ensures.refused
