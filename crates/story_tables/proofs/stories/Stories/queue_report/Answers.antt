use Rattle.std.proofs.Common.{ap, ◌∙◌}
use Rattle.news_types.specs.Answers.{queue_rows}
use Rattle.story_tables.proofs.InOrder.{subscribers_in_order}
use Rattle.story_tables.proofs.stories.Stories.queue_report.Goals as goal

pub returns : goal.returns
returns c h keeps legal =
    let alike = c.names.ensures.members _ keeps.queue in
    c.in_ok-rows.ensures h keeps alike
    ∙ ap (queue_rows h) (subscribers_in_order h c.names.result.now legal c.names.ensures.ascends alike)
