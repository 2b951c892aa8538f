use Rattle.news_types.specs.Conditions.{condition}
use Rattle.news_types.specs.Filters.{filters}
use Rattle.content_filters.specs.Kept.{truth}
use Rattle.content_filters.proofs.Ages.{at_age}
use Rattle.content_filters.proofs.table.Filters.matches_with.Goals as goal

pub returns : goal.returns
returns c h story keeps verdicts =
    let name = c.args.filter.now in
    rw (c.verdict_at.ensures, c.as_slice.ensures.value, keeps.ages name, verdicts.filters) (at_age (truth (condition h) story) (filters h) name)
