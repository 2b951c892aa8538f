use Rattle.std.proofs.Common.{◌≡◌, ◌-◌}
use Rattle.agency_wires.specs.Headline.{further}
use Rattle.agency_wires.proofs.headline.further_lines.Given as goal

abbrev pub invariant-loop-seen : goal.invariant-loop-seen
invariant-loop-seen l = further l.seen (4 - l.seen) l.rest ≡ further 0 4 l.fn.text
