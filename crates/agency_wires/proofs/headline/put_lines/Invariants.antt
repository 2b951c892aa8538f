use Rattle.std.proofs.Common.{◌≡◌, ◌-◌, ◌++◌}
use Rattle.agency_wires.specs.Headline.{spaced}
use Rattle.agency_wires.proofs.headline.put_lines.Given as goal

abbrev pub invariant-loop : goal.invariant-loop
invariant-loop l = l.out.items ++ spaced (l.count - l.counter) l.rest ≡ l.fn.out.items ++ spaced l.count l.fn.text
