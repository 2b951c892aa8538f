use Rattle.std.proofs.Common.{refl, arith}
use Rattle.standby_laws.proofs.following_moves.Goals as goal

pub returns-clause-list : goal.returns-clause-list
returns-clause-list c = refl

pub returns-clause-kepts : goal.returns-clause-kepts
returns-clause-kepts c = refl

pub returns-clause-may : goal.returns-clause-may
returns-clause-may c = ((tt, omega arith, tt), (((tt, omega arith, tt), omega arith, tt), (tt, (tt, (tt, (tt, (tt, (tt, (tt, tt)))))))))
