use Rattle.std.proofs.Common.{ap, arith, length}
use Rattle.agency_wires.proofs.Trims.{trim_back}
use Rattle.agency_wires.proofs.Lines.{trim_front_length}
use Rattle.agency_wires.proofs.parts.trimmed.Goals as goal

pub loop-rest-init : goal.loop-rest-init
loop-rest-init c = record {
  ends = ap trim_back c.front_trimmed-rest.ensures;
  within = omega (arith, ap length c.front_trimmed-rest.ensures, trim_front_length c.args.told.now);
}
