use Rattle.http_wire.proofs.Total.{requests_total}
use Rattle.http_wire.proofs.Open.{unfinished_open}
use Rattle.http_wire.proofs.Unique.{requests_unique, asks_or_ends}
use Rattle.http_wire.proofs.laws.requests_law.Goals as goal

pub returns-clause-unique : goal.returns-clause-unique
returns-clause-unique c = requests_unique

pub returns-clause-apart : goal.returns-clause-apart
returns-clause-apart c = asks_or_ends

pub returns-clause-total : goal.returns-clause-total
returns-clause-total c = requests_total

pub returns-clause-unfinished : goal.returns-clause-unfinished
returns-clause-unfinished c = unfinished_open
