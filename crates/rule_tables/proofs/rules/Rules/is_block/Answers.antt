use Rattle.std.proofs.Common.{refl, ◌∙◌}
use Rattle.news_types.specs.Names.{same}
use Rattle.news_types.specs.Filters.{Filter, filters}
use Rattle.rule_tables.proofs.Telling.{any_alike, by_cases}
use Rattle.rule_tables.proofs.rules.Rules.is_block.Goals as goal

pub returns : goal.returns
returns c h keeps = c.is_block.ensures h keeps.filters ∙ any_alike _ _ (λ (f : Filter). by_cases (same f.name c.args.name.now) (λ is. rw is refl) (λ is. rw is refl)) (filters h)
