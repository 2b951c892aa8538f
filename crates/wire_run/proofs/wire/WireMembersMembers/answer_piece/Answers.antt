use Rattle.std.proofs.Common.{refl, arith}
use Rattle.line_run.proofs.Along.{along_did}
use Rattle.wire_run.proofs.Decides.{decided_first}
use Rattle.wire_run.proofs.wire.WireMembersMembers.answer_piece.Goals as goal

pub answer_piece-requires-clause-going : goal.answer_piece-requires-clause-going
answer_piece-requires-clause-going g c = c.requires.begun.1.going

pub answer_piece-requires-clause-fits : goal.answer_piece-requires-clause-fits
answer_piece-requires-clause-fits g c = omega (arith, c.requires.begun.1.place, c.requires.begun.2)

pub returns-clause-first : goal.returns-clause-first
returns-clause-first g c = λ shelf. decided_first

pub returns-clause-did : goal.returns-clause-did
returns-clause-did g c = λ shelf read is.
    let gain = c.answer_piece.ensures.did read is in
    (gain.0, gain.1, λ h stands. along_did _ _ _ _ _ _ _ _ _ h _ _ _ refl stands.0 (gain.2 shelf.shelf h stands.1))
