use Rattle.http_wire.proofs.Tokens.{http_token}
use Rattle.http_wire.proofs.head.method_of.Goals as goal

pub returns-in-Err-clause-short : goal.returns-in-Err-clause-short
returns-in-Err-clause-short c short = c.in-Err.ensures.no_memory_needed (http_token c.args.bytes.now c.requires) short
