-- Where a story goes, told from the tables.
use Rattle.std.proofs.Common.{◌≡◌, ℕ, List, [], Option, Some, None, refl, sym, ap, ◌∙◌, subst}
use Rattle.news_types.specs.declared.rules.Rule.{Rule}
use Rattle.news_types.specs.declared.rules.RouteAction.{RouteAction}
use Rattle.news_types.specs.declared.story.Story.{Story}
use Rattle.news_types.specs.Names.{Bytes}
use Rattle.news_types.specs.History.{History}
use Rattle.news_types.specs.Routing.{Provider, scheme, routed, routed_from, routed_by_scheme, routed_if_there}
use Rattle.rule_tables.specs.Routed.{rules_of, rules_from}

module _ (h : History) (story : Story) (m : ℕ) where
  by_scheme : (o : Option Bytes) → routed_by_scheme h o story m ≡ routed_if_there h (rules_of (scheme h) o) story m
  by_scheme None = refl
  by_scheme (Some name) = refl

  by_rules : (p : Option Provider) → routed_from h p story m ≡ routed_if_there h (rules_from (scheme h) p) story m
  by_rules None = refl
  by_rules (Some p) = by_scheme p.scheme

  pub routed_nowhere : (p : Option Provider) → None ≡ rules_from (scheme h) p → [] ≡ routed_from h p story m
  routed_nowhere p none = sym (by_rules p ∙ ap (λ (o : Option (List Rule)). routed_if_there h o story m) (sym none))

  pub routed_by_rules : (p : Option Provider) (rules : List Rule) → Some rules ≡ rules_from (scheme h) p → routed h rules story m ≡ routed_from h p story m
  routed_by_rules p rules some = sym (by_rules p ∙ ap (λ (o : Option (List Rule)). routed_if_there h o story m) (sym some))
