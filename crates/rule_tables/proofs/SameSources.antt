-- Tables of schemes and providers that keep the same.
use Rattle.std.proofs.Common.{◌≡◌, ℕ, List, Option, ap, ◌∙◌}
use Rattle.std.specs.Option.{option_map}
use Rattle.news_types.specs.Names.{Bytes}
use Rattle.news_types.specs.declared.rules.Rule.{Rule}
use Rattle.news_types.specs.Routing.{Provider}
use Rattle.rule_tables.specs.declared.sources.Sources.{Sources}
use Rattle.rule_tables.specs.Sources.{Keeps, IsAlike, source_of}

pub kept_alike : (t r : Sources) (scheme : Bytes → Option (List Rule)) (n : ℕ) (provider : Bytes → Option Provider) (k : ℕ) → IsAlike t r → Keeps t scheme n provider k → Keeps r scheme n provider k
kept_alike t r scheme n provider k alike keeps = record {
  scheme_of = λ name. alike.schemes name ∙ keeps.scheme_of name;
  scheme_number = alike.scheme_number ∙ keeps.scheme_number;
  provider_of = λ name. ap (option_map source_of) (alike.providers name) ∙ keeps.provider_of name;
  provider_number = alike.provider_number ∙ keeps.provider_number;
}
