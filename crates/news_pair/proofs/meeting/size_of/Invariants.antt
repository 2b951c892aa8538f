use Rattle.std.proofs.Common.{◌≡◌, ◌<◌, ◌+◌, ◌^◌, length, take}
use Rattle.news_journal.specs.Log.{records}
use Rattle.news_journal.specs.Opened.{payloads}
use Rattle.news_pair.proofs.meeting.size_of.Given as goal

abbrev pub invariant-loop-record : goal.invariant-loop-record
invariant-loop-record l = record {
  size : l.size ≡ 65 + length (records (payloads (take l.record-index l.records)));
  small : l.size < 2 ^ 60;
}
