use Rattle.std.proofs.Common.{length}
use Rattle.byte_formats.proofs.faults.+digits_fault.Given as goal

abbrev pub decreases-digits_fault : goal.decreases-digits_fault
decreases-digits_fault l = length l.most.now
