use Rattle.std.proofs.Common.{◌∙◌}
use Rattle.story_tables.proofs.Viewed.{due_among}
use Rattle.story_tables.proofs.stories.Stories.had.Goals as goal

pub returns : goal.returns
returns c h keeps =
    let s = c.args.subscriber.now in
    c.is_due_among.ensures ∙ due_among s c.soonest.result.now ∙ c.soonest.ensures.had _ _ keeps.publications s
