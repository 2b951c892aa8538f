use Rattle.std.proofs.Common.{◌≡◌, ◌++◌}
use Rattle.std.specs.Iterator.Adapters.{zip_first, zip_second}
use Rattle.std.specs.Slice.Iter.{iter_rest}
use Rattle.news_types.specs.declared.story.Story.{Story}
use Rattle.news_types.specs.History.{History}
use Rattle.news_types.specs.Routing as said
use Rattle.routing_rules.specs.Judged.{AreVerdictsOf}
use Rattle.routing_rules.specs.Zones.{AreZonesOf}
use Rattle.routing_rules.proofs.routing.Routes.actions.Given as goal

-- of the rules that are left
abbrev pub invariant-loop-rule : goal.invariant-loop-rule
invariant-loop-rule l =
    let rules = iter_rest (zip_first l.rule-iterator) in
    AreZonesOf rules (iter_rest (zip_second l.rule-iterator))
    × ((h : History) (story : Story) → AreVerdictsOf l.verdicts l.filters h story
    → l.actions.items ++ said.routed h rules story l.moment ≡ said.routed h l.self story l.moment)
