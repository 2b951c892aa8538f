use Rattle.std.proofs.Common.{length}
use Rattle.subscriber_import.proofs.Parts.{SoFar}
use Rattle.subscriber_import.proofs.wanted.read_parts.Given as goal

abbrev pub invariant-parts : goal.invariant-parts
invariant-parts l = SoFar l.fn.field l.names.items l.rest

abbrev pub decreases-parts : goal.decreases-parts
decreases-parts l = length l.rest
