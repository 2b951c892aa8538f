use Rattle.entry_segments.specs.Spelled.{entries_in}
use Rattle.entry_segments.proofs.Fronts.{Took}
use Rattle.entry_segments.proofs.packing.fitting.Given as goal

abbrev pub invariant-loop-payload : goal.invariant-loop-payload
invariant-loop-payload l = record { took : Took l.front l.payload-index (entries_in l.payloads) }
