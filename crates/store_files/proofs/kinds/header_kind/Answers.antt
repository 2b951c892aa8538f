use Rattle.store_files.proofs.Headers.{kind_read, kind_unknown}
use Rattle.store_files.proofs.kinds.header_kind.Goals as goal

pub returns-in-Some-clause-kind : goal.returns-in-Some-clause-kind
returns-in-Some-clause-kind g c told full = kind_read (g.D.Disk.disk.seen c.args.log.now) c.in_ok-header.field-0 c.in-Some.header c.kind_of.result c.in-Some.is c.kind_of.ensures full (c.in_ok-header.ensures.header told)

pub returns-in-None-clause-kind : goal.returns-in-None-clause-kind
returns-in-None-clause-kind g c told full = kind_unknown (g.D.Disk.disk.seen c.args.log.now) c.in_ok-header.field-0 c.in-None.is full (c.in_ok-header.ensures.header told)
