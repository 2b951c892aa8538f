use Rattle.std.proofs.Common.{take}
use Rattle.routing_rules.specs.Zones.{AreZonesOf}
use Rattle.routing_rules.proofs.routing.zones_of.Given as goal

abbrev pub invariant-loop-rule : goal.invariant-loop-rule
invariant-loop-rule l = AreZonesOf (take l.rule-index l.rules) l.zones.items
