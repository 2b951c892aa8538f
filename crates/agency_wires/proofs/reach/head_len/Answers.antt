use Rattle.std.proofs.Common.{Some, None}
use Rattle.agency_wires.proofs.Places.{first_in_head}
use Rattle.agency_wires.proofs.reach.head_len.Goals as goal

pub returns-in-Some-clause-leads : goal.returns-in-Some-clause-leads
returns-in-Some-clause-leads c = (first_in_head c.args.bytes.now (Some c.in-Some.i) c.in-Some.ensures).0

pub returns-in-None-clause-leads : goal.returns-in-None-clause-leads
returns-in-None-clause-leads c = (first_in_head c.args.bytes.now None c.in-None.ensures).0
