use Rattle.std.proofs.Common.{◌≡◌, ◌-◌, take, drop}
use Rattle.news_journal.specs.Opened.{payloads}
use Rattle.news_pair.proofs.meeting.meet.Given as goal

abbrev pub invariant-loop-i : goal.invariant-loop-i
invariant-loop-i l = take (l.i - l.base) (payloads l.log) ≡ take (l.i - l.base) (drop l.base (payloads l.side))
