use Rattle.std.proofs.Common.{[], ap, ◌∙◌}
use Rattle.news_types.specs.Conditions.{condition, condition_count}
use Rattle.news_types.specs.Filters.{filters}
use Rattle.content_filters.specs.Keeps.{judged, matching_blocks}
use Rattle.content_filters.proofs.Judging.{are_verdicts}
use Rattle.content_filters.proofs.table.Filters.verdicts.Goals as goal

pub returns : goal.returns
returns c h keeps =
    let t = c.args.self.now in
    are_verdicts t (condition h) (condition_count h) (filters h) c.args.story.now _ keeps c.in_ok-conditions.ensures (c.in_ok-filters.ensures ∙ ap (λ verdicts. judged t verdicts [] t.filters.items) c.as_slice.ensures.value)
    (c.in_ok-blocks.ensures ∙ ap (λ verdicts. matching_blocks t verdicts) c.as_slice-2.ensures.value)
