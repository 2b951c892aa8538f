use Rattle.std.proofs.Common.{ap}
use Rattle.news_types.specs.declared.words.Thing.TheVariants as thing
use Rattle.news_types.specs.Denial.{absent}
use Rattle.content_filters.specs.Asked.{first_thing}
use Rattle.rule_tables.proofs.rules.Rules.has_filter.Goals as goal

pub returns-in-Some : goal.returns-in-Some
returns-in-Some c h keeps =
    rw c.in-Some.is (ap (λ b. first_thing (absent b thing.Filter)) (c.has.ensures h keeps.filters))
