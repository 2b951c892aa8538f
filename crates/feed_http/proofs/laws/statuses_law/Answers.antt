use Rattle.feed_http.proofs.Statuses.{outcome_given, statuses_tell}
use Rattle.feed_http.proofs.laws.statuses_law.Goals as goal

pub returns-clause-given : goal.returns-clause-given
returns-clause-given c = outcome_given

pub returns-clause-told : goal.returns-clause-told
returns-clause-told c = statuses_tell
