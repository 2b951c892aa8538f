use Rattle.std.proofs.Common.{ap, ◌∙◌}
use Rattle.std.specs.Option.{option_map}
use Rattle.news_types.specs.Names.{is_in}
use Rattle.news_types.specs.Products.{subscribers}
use Rattle.story_tables.specs.Asked.{pauses_at}
use Rattle.story_tables.proofs.Carried.{paused_told}
use Rattle.story_tables.proofs.stories.Stories.is_paused.Goals as goal

pub returns : goal.returns
returns c h keeps =
    let s = c.args.subscriber.now in
    c.paused_by.ensures ∙ ap (option_map pauses_at) (c.facts.ensures _ keeps.queue) ∙ paused_told h s (is_in s (subscribers h))
