use Rattle.std.proofs.Common.{◌≡◌, drop}
use Rattle.news_journal.specs.Opened.{places}
use Rattle.news_pair.specs.Damage.{first_of, no_entry}
use Rattle.news_pair.proofs.checking.check_entries.Given as goal

abbrev pub invariant-loop-kept : goal.invariant-loop-kept
invariant-loop-kept l = first_of no_entry (places l.records) ≡ first_of no_entry (drop l.kept-index (places l.records))
