use Rattle.std.proofs.Common.{arith}
use Rattle.text7901.proofs.Parts.{last_lf_dropped, last_lf_none}
use Rattle.text7901.proofs.bytes.without_last_lf.Goals as goal

pub returns-then-last-eq10 : goal.returns-then-last-eq10
returns-then-last-eq10 c = last_lf_dropped c.args.bytes.now (omega arith) c.if-last-eq10.true

pub returns-else-last-eq10 : goal.returns-else-last-eq10
returns-else-last-eq10 c = last_lf_none c.args.bytes.now (omega arith) c.if-last-eq10.false
