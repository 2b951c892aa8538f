use Rattle.std.proofs.Common.{refl}
use Rattle.line_run.proofs.Along.{along_did}
use Rattle.agency_runs.proofs.Decides.{decided_first}
use Rattle.agency_runs.proofs.wire.MessageMembersMembers.answer_piece.Goals as goal

pub returns-clause-first : goal.returns-clause-first
returns-clause-first g c = λ shelf. decided_first

pub returns-clause-did : goal.returns-clause-did
returns-clause-did g c = λ shelf read is.
    let gain = c.answer_piece.ensures.did read is in
    (gain.0, gain.1, λ h stands. along_did _ _ _ _ _ _ _ _ _ h _ _ _ refl stands.0 (gain.2 shelf.shelf h stands.1))
