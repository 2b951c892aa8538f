use Rattle.std.proofs.Common.{◌≡◌, ◌++◌, ◌<◌, ◌^◌}
use Rattle.std.specs.Prelude.{All, map}
use Rattle.news_io.specs.declared.record.Record.{Record}
use Rattle.news_journal.specs.Opened.{payloads}
use Rattle.news_pair.specs.Placed.{packed_record}
use Rattle.news_pair.proofs.unpacking.add_entries.Given as goal

abbrev pub invariant-loop-bytes : goal.invariant-loop-bytes
invariant-loop-bytes l = record {
  items : payloads l.entries.items ≡ payloads l.initial.entries.items ++ l.yielded;
  placed : l.entries.items ≡ l.initial.entries.items ++ map (packed_record l.at) l.yielded;
  at : l.at < 2 ^ 30 → All (λ (r : Record). r.at < 2 ^ 30) l.initial.entries.items → All (λ (r : Record). r.at < 2 ^ 30) l.entries.items;
}
