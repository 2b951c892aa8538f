use Rattle.std.proofs.Common.{ap, ◌∙◌}
use Rattle.std.specs.Prelude.{nat_lt}
use Rattle.news_types.specs.declared.words.Thing.TheVariants as thing
use Rattle.news_types.specs.declared.denial.Denial.TheVariants.{Limit}
use Rattle.news_types.specs.Denial.{unless}
use Rattle.story_tables.proofs.stories.Stories.publications_full.Goals as goal

pub returns : goal.returns
returns c h keeps = c.unless_below.ensures ∙ ap (λ n. unless (nat_lt n 262144) (Limit thing.Publication 262144)) (c.len.ensures _ _ keeps.publications)
