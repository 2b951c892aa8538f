use Rattle.std.proofs.Common.{arith}
use Rattle.jiff_core.proofs.SignedLemmas.{signed_casts}
use Rattle.release_rules.proofs.Civils.{year_from_1970}
use Rattle.release_rules.proofs.writing.year_number.Goals as goal

pub overflow_cast-result : goal.overflow_cast-result
overflow_cast-result c = let h = year_from_1970 c.args.date c.requires in (omega (arith, signed_casts, h), omega (arith, signed_casts, h))

pub returns-clause-value : goal.returns-clause-value
returns-clause-value c = let h = year_from_1970 c.args.date c.requires in omega (arith, signed_casts, h)
