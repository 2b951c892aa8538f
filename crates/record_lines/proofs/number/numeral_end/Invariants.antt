use Rattle.std.proofs.Common.{None, take}
use Rattle.byte_formats.specs.Until.{numeral_step}
use Rattle.byte_formats.proofs.Runs.{SeenUntil, IsValue}
use Rattle.record_lines.proofs.number.numeral_end.Given as goal

abbrev pub invariant-loop-i : goal.invariant-loop-i
invariant-loop-i l = record {
  seen : SeenUntil (numeral_step l.stop l.least l.most) None l.bytes l.i l.value;
  value : IsValue l.value (take l.i l.bytes);
}
