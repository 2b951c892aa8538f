use Rattle.std.proofs.Common.{sym, ap, ◌∙◌}
use Rattle.std.specs.Option.{option_map, option_copied}
use Rattle.rule_tables.specs.Sources.{source_of}
use Rattle.rule_tables.proofs.rules.Rules.provider.Goals as goal

pub returns-in-Some : goal.returns-in-Some
returns-in-Some c h keeps = ap (option_map source_of) (sym (ap option_copied c.in-Some.is) ∙ c.get.ensures.value) ∙ keeps.sources.provider_of c.args.name.now

pub returns-in-None : goal.returns-in-None
returns-in-None c h keeps = ap (option_map source_of) (sym (ap option_copied c.in-None.is) ∙ c.get.ensures.value) ∙ keeps.sources.provider_of c.args.name.now
