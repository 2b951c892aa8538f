use Rattle.std.proofs.Common.{◌≡◌, ◌≤◌, ◌-◌, []}
use Rattle.news_types.specs.Names.{AreInOrder}
use Rattle.byte_formats.specs.Parts.{steps_at}
use Rattle.entry_segments.specs.Reading.{packed, moment_of}
use Rattle.entry_segments.specs.Payloads.{told_behind}
use Rattle.entry_segments.proofs.payloads.payloads.Given as goal

abbrev pub invariant-loop : goal.invariant-loop
invariant-loop l = record {
  so_far : told_behind l.items.items l.seen.items (steps_at (packed l.names) moment_of (l.count - l.counter) l.moment l.input) ≡ told_behind [] [] (steps_at (packed l.names) moment_of l.count 0 l.fn.input);
  order : AreInOrder l.seen.items;
  fits : l.moment ≤ 253402300799;
}
