use Rattle.std.proofs.Common.{arith}
use Rattle.archive_query.proofs.Verdicts.{found_in, only_query, fault_in}
use Rattle.archive_query.proofs.parsing.parse.Goals as goal

pub returns-clause-found : goal.returns-clause-found
returns-clause-found c = found_in c.args.text.now c.read_text.result (omega arith) c.read_text.ensures

pub returns-clause-only : goal.returns-clause-only
returns-clause-only c q is = only_query c.args.text.now c.read_text.result q c.read_text.ensures is

pub returns-clause-fault : goal.returns-clause-fault
returns-clause-fault c = fault_in c.args.text.now c.read_text.result (omega arith) c.read_text.ensures
