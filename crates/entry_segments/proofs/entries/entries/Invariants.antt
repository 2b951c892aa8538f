use Rattle.std.proofs.Common.{◌≡◌, ◌≤◌, ◌-◌}
use Rattle.byte_formats.specs.Parts.{steps_at}
use Rattle.byte_formats.proofs.Scans.{with_items}
use Rattle.entry_segments.specs.Reading.{packed, moment_of}
use Rattle.entry_segments.proofs.entries.entries.Given as goal

abbrev pub invariant-loop : goal.invariant-loop
invariant-loop l = record {
  so_far : with_items l.entries.items (steps_at (packed l.names) moment_of (l.count - l.counter) l.moment l.input) ≡ steps_at (packed l.names) moment_of l.count 0 l.fn.input;
  fits : l.moment ≤ 253402300799;
}
