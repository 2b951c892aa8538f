use Rattle.std.proofs.Common.{◌≡◌, drop}
use Rattle.http_wire.specs.Target.{in_method}
use Rattle.http_wire.proofs.target.scans_method.Given as goal

abbrev pub invariant-loop-i : goal.invariant-loop-i
invariant-loop-i l = in_method (drop l.i l.bytes) ≡ in_method l.bytes
