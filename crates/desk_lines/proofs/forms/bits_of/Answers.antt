use Rattle.std.proofs.Common.{arith}
use Rattle.std.proofs.lemmas.Grind.{common_steps}
use Rattle.std.proofs.lemmas.Nat.{or_lt}
use Rattle.desk_lines.proofs.forms.bits_of.Goals as goal

pub loop-value-preserved : goal.loop-value-preserved
loop-value-preserved g c = record {
  rest = grind (arith, common_steps);
  bound = or_lt g.B.Bits.width _ _ c.loop-value.invariant.bound c.in_ok-bits.ensures.bound;
}
