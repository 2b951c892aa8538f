use Rattle.std.proofs.Common.{Some, sym, ap, ◌∙◌}
use Rattle.std.specs.Option.{option_copied}
use Rattle.rule_tables.proofs.rules.Rules.scheme.Goals as goal

pub returns-in-Some : goal.returns-in-Some
returns-in-Some c h keeps = ap Some c.rules.ensures ∙ sym (ap option_copied c.in-Some.is) ∙ c.get.ensures.value ∙ keeps.sources.scheme_of c.args.name.now

pub returns-in-None : goal.returns-in-None
returns-in-None c h keeps = sym (ap option_copied c.in-None.is) ∙ c.get.ensures.value ∙ keeps.sources.scheme_of c.args.name.now
