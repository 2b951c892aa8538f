use Rattle.std.proofs.Common.{rules}
use Rattle.standby_files.proofs.HeaderKinds.{other_so, own_so, none_so}
use Rattle.standby_files.proofs.opening.header_kind.Goals as goal

pub returns-in_default-clause-kind : goal.returns-in_default-clause-kind
returns-in_default-clause-kind g c told = none_so c.args.store.now (g.D.Disk.disk.seen c.args.log.now) c.in_ok-header.field-0 (search rules) (c.in_ok-header.ensures.header told)

pub returns-then-is_other-clause-kind : goal.returns-then-is_other-clause-kind
returns-then-is_other-clause-kind g c told =
    other_so c.args.store.now (g.D.Disk.disk.seen c.args.log.now) c.in_ok-header.field-0 c.in-Some.header c.is_other.result c.in-Some.is c.if-is_other.true c.is_other.ensures (c.in_ok-header.ensures.header told)

pub returns-clause-kind : goal.returns-clause-kind
returns-clause-kind g c told =
    own_so c.args.store.now (g.D.Disk.disk.seen c.args.log.now) c.in_ok-header.field-0 c.in-Some.header c.is_other.result c.in-Some.is c.if-is_other.false c.is_other.ensures (c.in_ok-header.ensures.header told)
