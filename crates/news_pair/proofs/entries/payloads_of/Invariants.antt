use Rattle.std.proofs.Common.{◌≡◌}
use Rattle.news_journal.specs.Opened.{payloads}
use Rattle.news_pair.proofs.entries.payloads_of.Given as goal

abbrev pub invariant-loop-kept : goal.invariant-loop-kept
invariant-loop-kept l = record { items : l.payloads.items ≡ payloads l.yielded }
