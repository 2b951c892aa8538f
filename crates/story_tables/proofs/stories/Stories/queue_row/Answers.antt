use Rattle.std.proofs.Common.{ap, ◌∙◌}
use Rattle.std.specs.Option.{option_map}
use Rattle.news_types.specs.Names.{is_in}
use Rattle.news_types.specs.Products.{subscribers}
use Rattle.story_tables.specs.Reports.{row_by}
use Rattle.story_tables.proofs.Reported.{row_told}
use Rattle.story_tables.proofs.stories.Stories.queue_row.Goals as goal

pub returns : goal.returns
returns c h keeps =
    let s = c.args.subscriber.now in
    c.row_by.ensures ∙ ap (option_map (row_by s)) (c.facts.ensures _ keeps.queue) ∙ row_told h s (is_in s (subscribers h))
