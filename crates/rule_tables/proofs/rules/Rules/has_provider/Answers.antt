use Rattle.std.proofs.Common.{◌≡◌, ℕ, Option, Some, None, is_some, refl, sym, ap, ◌∙◌}
use Rattle.std.specs.Option.{option_map}
use Rattle.news_types.specs.Routing.{Provider}
use Rattle.rule_tables.specs.declared.sources.Source.{Source}
use Rattle.rule_tables.specs.Sources.{source_of}
use Rattle.rule_tables.proofs.rules.Rules.has_provider.Goals as goal

there : (o : Option Source) → is_some o ≡ is_some (option_map source_of o)
there None = refl
there (Some s) = refl

pub returns : goal.returns
returns c h keeps = c.has_provider.ensures ∙ there _ ∙ ap is_some (keeps.sources.provider_of c.args.name.now)
