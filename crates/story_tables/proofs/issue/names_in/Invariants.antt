use Rattle.std.proofs.Common.{◌≡◌, ◌++◌, drop}
use Rattle.publish_queue.specs.Many.{names_in}
use Rattle.story_tables.proofs.issue.names_in.Given as goal

abbrev pub invariant-loop-one : goal.invariant-loop-one
invariant-loop-one l = l.names.items ++ names_in (drop l.one-index l.due) ≡ names_in l.due
