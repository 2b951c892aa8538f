use Rattle.std.proofs.Common.{◌≡◌, ◌++◌, drop}
use Rattle.std.specs.Prelude.{All}
use Rattle.entry_segments.specs.Spelled.{entries_in, IsPayload}
use Rattle.entry_segments.proofs.packing.payloads_of.Given as goal

abbrev pub invariant-loop-entry : goal.invariant-loop-entry
invariant-loop-entry l = record {
  each : All IsPayload l.payloads.items;
  entries : entries_in l.payloads.items ++ drop l.entry-index l.entries ≡ l.entries;
}
