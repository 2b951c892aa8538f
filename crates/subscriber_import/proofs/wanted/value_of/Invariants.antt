use Rattle.subscriber_import.proofs.Parts.{ReadSoFar}
use Rattle.subscriber_import.proofs.wanted.value_of.Given as goal

abbrev pub invariant-loop-byte : goal.invariant-loop-byte
invariant-loop-byte l = ReadSoFar l.field l.byte-index l.value
