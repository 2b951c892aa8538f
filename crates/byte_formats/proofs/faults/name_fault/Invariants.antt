use Rattle.std.proofs.Common.{true}
use Rattle.byte_formats.specs.Fields.{name_step}
use Rattle.byte_formats.proofs.Scans.{Seen}
use Rattle.byte_formats.proofs.faults.name_fault.Given as goal

abbrev pub invariant-loop-i : goal.invariant-loop-i
invariant-loop-i l = Seen name_step l.len true l.bytes l.i true
