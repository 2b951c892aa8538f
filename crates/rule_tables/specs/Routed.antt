-- Where a story goes that comes in.
use Rattle.std.specs.Prelude.{◌≡◌, List, Option, Some, None}
use Rattle.news_types.specs.declared.rules.Rule.{Rule}
use Rattle.news_types.specs.declared.rules.RouteAction.{RouteAction}
use Rattle.news_types.specs.Names.{Bytes}
use Rattle.news_types.specs.Routing.{Provider, first_fetch, publishes}
use Rattle.rule_tables.specs.declared.route.Routed.{Routed}

abbrev pub rules_of : (Bytes → Option (List Rule)) → Option Bytes → Option (List Rule)
rules_of scheme None = None
rules_of scheme (Some name) = scheme name

-- the rules of a provider's scheme, if it has one
abbrev pub rules_from : (Bytes → Option (List Rule)) → Option Provider → Option (List Rule)
rules_from scheme None = None
rules_from scheme (Some p) = rules_of scheme p.scheme

-- it is what the actions ask for
pub record IsRouted (routed : Routed) (actions : List RouteAction) : Type 0 where
  pub place : routed.place ≡ first_fetch actions
  pub published : routed.publishes ≡ publishes actions
