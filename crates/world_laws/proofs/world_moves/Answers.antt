use Rattle.std.proofs.Common.{refl}
use Rattle.world_laws.proofs.world_moves.Goals as goal

pub returns-clause-entries : goal.returns-clause-entries
returns-clause-entries c = refl

pub returns-clause-held : goal.returns-clause-held
returns-clause-held c = refl

pub returns-clause-acked : goal.returns-clause-acked
returns-clause-acked c = refl

pub returns-clause-answers : goal.returns-clause-answers
returns-clause-answers c = refl
