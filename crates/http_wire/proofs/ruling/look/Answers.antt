use Rattle.std.proofs.Common.{refl}
use Rattle.http_wire.proofs.FrontLemmas.{front_is}
use Rattle.http_wire.proofs.ruling.look.Goals as goal

pub returns-clause-value : goal.returns-clause-value
returns-clause-value c = front_is _ _ _ _ c.min-looked.ensures refl refl
