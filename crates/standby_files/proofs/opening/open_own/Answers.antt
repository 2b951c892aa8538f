use Rattle.standby_files.proofs.Own.{none_refused}
use Rattle.standby_files.proofs.opening.open_own.Goals as goal

pub own_standby-requires : goal.own_standby-requires
own_standby-requires g c = let l = c.in-Ok.ensures.listed in record { few = l.few; entries = (l.list, l.are) }

pub returns-in-Ok-clause-opened : goal.returns-in-Ok-clause-opened
returns-in-Ok-clause-opened g c = c.own_standby.ensures.opened c.args.log c.args.side c.in-Ok.ensures.listed

pub returns-in-Ok-clause-refused : goal.returns-in-Ok-clause-refused
returns-in-Ok-clause-refused g c = c.own_standby.ensures.refused c.args.log c.args.side c.in-Ok.ensures.listed

pub returns-in-Err-clause-refused : goal.returns-in-Err-clause-refused
returns-in-Err-clause-refused g c = none_refused g.D.Disk.disk c.args.store c.args.log c.args.side c.in-Err.refused.0 c.in-Err.refused.1 c.in-Err.refused.2 c.in-Err.ensures.refused
