use Rattle.std.proofs.Common.{subst}
use Rattle.entry_segments.specs.Spelled.{entry_in}
use Rattle.entry_segments.specs.Told.{Tells}
use Rattle.entry_segments.proofs.Fronts.{told_short}
use Rattle.entry_segments.proofs.payload_parts.parts_of.Goals as goal

pub returns-in-Ok-clause-short : goal.returns-in-Ok-clause-short
returns-in-Ok-clause-short c = told_short c.in-Ok.parts.told (entry_in c.args.payload.now) (subst (λ b. Tells c.in-Ok.parts.told (entry_in b).act) c.new-input.ensures c.in-Ok.ensures.tells) c.requires.is_entry
