use Rattle.std.proofs.Common.{◌≡◌, ◌++◌, drop}
use Rattle.news_types.specs.Due.{given_by}
use Rattle.publish_queue.specs.Many.{names_in}
use Rattle.story_tables.proofs.issue.names_by.Given as goal

abbrev pub invariant-loop-one : goal.invariant-loop-one
invariant-loop-one l = l.names.items ++ names_in (given_by l.moment (drop l.one-index l.due)) ≡ names_in (given_by l.moment l.due)
