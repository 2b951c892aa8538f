use Rattle.std.proofs.Common.{◌≡◌, ◌-◌, []}
use Rattle.byte_formats.specs.Parts.{steps_at}
use Rattle.byte_formats.proofs.Scans.{with_items}
use Rattle.entry_segments.specs.Reading.{above, the_name}
use Rattle.entry_segments.specs.Answers.{name_before}
use Rattle.entry_segments.proofs.reading.ascending.Given as goal

abbrev pub invariant-loop : goal.invariant-loop
invariant-loop l = with_items l.names.items (steps_at above the_name (l.count - l.counter) (name_before l.last) l.input) ≡ steps_at above the_name l.count [] l.fn.input
