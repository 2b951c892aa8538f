use Rattle.std.proofs.Common.{◌∙◌, refl}
use Rattle.std.proofs.lemmas.Bool.{le-ltb, lt-ltb}
use Rattle.byte_formats.proofs.Scans.{free_scan}
use Rattle.byte_formats.proofs.faults.end_fault.Goals as goal

pub returns-then-bytes-len-clause-judges : goal.returns-then-bytes-len-clause-judges
returns-then-bytes-len-clause-judges c = free_scan _ _ ∙ rw (lt-ltb _ _ c.if-bytes-len.true) refl

pub returns-else-bytes-len-clause-judges : goal.returns-else-bytes-len-clause-judges
returns-else-bytes-len-clause-judges c = free_scan _ _ ∙ rw (le-ltb _ _ c.if-bytes-len.false) refl
