use Rattle.archive_query.specs.declared.tokens.Place.TheVariants.{Start}
use Rattle.archive_query.proofs.Cutting.{joined_from}
use Rattle.archive_query.proofs.Once.{judged, judged_once, one_query}
use Rattle.archive_query.proofs.laws.queries_law.Goals as goal

pub returns-clause-tokens : goal.returns-clause-tokens
returns-clause-tokens c text = joined_from Start text

pub returns-clause-one : goal.returns-clause-one
returns-clause-one c text q r is_q is_r = one_query text q r is_q is_r

pub returns-clause-judged : goal.returns-clause-judged
returns-clause-judged c text = judged text

pub returns-clause-once : goal.returns-clause-once
returns-clause-once c text = judged_once text
