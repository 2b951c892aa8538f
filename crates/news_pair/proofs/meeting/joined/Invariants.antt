use Rattle.std.proofs.Common.{◌≡◌, ◌++◌}
use Rattle.news_pair.proofs.meeting.joined.Given as goal

abbrev pub invariant-loop-record : goal.invariant-loop-record
invariant-loop-record l = l.side.items ≡ l.fn.side.items ++ l.yielded
