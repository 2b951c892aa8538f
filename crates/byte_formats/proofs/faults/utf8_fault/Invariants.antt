use Rattle.byte_formats.specs.Fields.{utf8_step, due}
use Rattle.byte_formats.proofs.Scans.{Seen}
use Rattle.byte_formats.proofs.faults.utf8_fault.Given as goal

abbrev pub invariant-loop-i : goal.invariant-loop-i
invariant-loop-i l = Seen utf8_step l.len (due 0 128 191) l.bytes l.i l.due
