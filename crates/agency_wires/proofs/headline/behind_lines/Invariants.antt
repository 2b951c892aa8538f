use Rattle.std.proofs.Common.{◌≡◌, ◌-◌}
use Rattle.agency_wires.specs.Headline.{behind}
use Rattle.agency_wires.proofs.headline.behind_lines.Given as goal

abbrev pub invariant-loop : goal.invariant-loop
invariant-loop l = behind (l.count - l.counter) l.rest ≡ behind l.count l.fn.text
