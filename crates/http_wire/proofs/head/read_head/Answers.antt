use Rattle.std.proofs.Common.{ap, Err}
use Rattle.http_wire.proofs.Long.{never_exceeds}
use Rattle.http_wire.proofs.head.read_head.Goals as goal

pub returns-in-Err-clause-found : goal.returns-in-Err-clause-found
returns-in-Err-clause-found c more h rest reads =
    c.in-Err.ensures.invalid (λ e. never_exceeds c.args.bytes.now _ c.requires.short c.requires.room (c.in-Err.ensures.too_many (ap (λ x. Err x) e))) more h rest reads
