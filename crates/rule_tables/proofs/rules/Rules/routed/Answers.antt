use Rattle.std.proofs.Common.{◌≡◌, refl, sym, ap, ◌∙◌}
use Rattle.std.specs.Option.{option_copied}
use Rattle.news_types.specs.Routing.{provider, first_fetch, publishes}
use Rattle.rule_tables.proofs.Routing.{routed_nowhere, routed_by_rules}
use Rattle.rule_tables.proofs.rules.Rules.routed.Goals as goal

pub returns-in_default : goal.returns-in_default
returns-in_default c h keeps =
    let p = provider h c.args.provider.now in
    let nowhere = routed_nowhere h c.args.story.now c.args.moment p (sym (ap option_copied c.in_default.is) ∙ c.routes.ensures _ _ _ _ keeps.sources) in
    record { place = ap first_fetch nowhere; published = ap publishes nowhere }

pub returns : goal.returns
returns c h keeps =
    let p = provider h c.args.provider.now in
    let told = routed_by_rules h c.args.story.now c.args.moment p c.in-Some.routes.now (sym (ap option_copied c.in-Some.is) ∙ c.routes.ensures _ _ _ _ keeps.sources) in
    let is = c.in_ok-actions.ensures h keeps.filters ∙ told in
    record {
      place = c.first_fetch.ensures ∙ ap first_fetch (c.as_slice.ensures ∙ is);
      published = c.publishes.ensures ∙ ap publishes (c.as_slice-2.ensures ∙ is);
    }
