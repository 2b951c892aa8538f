use Rattle.std.proofs.Common.{◌≡◌, drop}
use Rattle.news_types.specs.Names.{AreInOrder}
use Rattle.entry_segments.specs.Segment.{names_from, names_of}
use Rattle.entry_segments.proofs.names.names_of.Given as goal

abbrev pub invariant-loop-entry : goal.invariant-loop-entry
invariant-loop-entry l = record {
  up : AreInOrder l.names.items;
  rest : names_from l.names.items (drop l.entry-index l.entries) ≡ names_of l.entries;
}
