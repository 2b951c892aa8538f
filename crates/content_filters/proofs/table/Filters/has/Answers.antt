use Rattle.news_types.specs.Conditions.{condition, condition_count}
use Rattle.news_types.specs.Filters.{filters}
use Rattle.content_filters.proofs.table.Filters.has.Goals as goal

pub returns : goal.returns
returns c h keeps = c.has_filter.ensures (condition h) (condition_count h) (filters h) keeps
