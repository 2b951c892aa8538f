use Rattle.feed_reasons.proofs.Verdicts.{permitted_is_said, verdicts_are_true}
use Rattle.feed_reasons.proofs.Dues.{due_is_said}
use Rattle.feed_reasons.proofs.Courses.{not_due_is_said, sent_is_entry, waits_as_said}
use Rattle.feed_reasons.proofs.laws.why_law.Goals as goal

pub returns-clause-permitted : goal.returns-clause-permitted
returns-clause-permitted c = permitted_is_said

pub returns-clause-causes : goal.returns-clause-causes
returns-clause-causes c = verdicts_are_true

pub returns-clause-due : goal.returns-clause-due
returns-clause-due c = due_is_said

pub returns-clause-others : goal.returns-clause-others
returns-clause-others c = not_due_is_said

pub returns-clause-sent : goal.returns-clause-sent
returns-clause-sent c = sent_is_entry

pub returns-clause-waits : goal.returns-clause-waits
returns-clause-waits c = waits_as_said
