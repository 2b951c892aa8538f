use Rattle.std.proofs.Common.{refl}
use Rattle.line_run.proofs.Along.{along_did}
use Rattle.agency_runs.proofs.wire.MessageMembersMembers.answer_end.Goals as goal

pub returns-clause-did : goal.returns-clause-did
returns-clause-did g c = λ shelf read is.
    let gain = c.answer_last.ensures.did read is in
    (gain.0, gain.1, λ h stands. along_did _ _ _ _ _ _ _ _ _ h _ _ _ refl stands.0 (gain.2 shelf.shelf h stands.1))
