use Rattle.std.proofs.Common.{ap, ◌∙◌}
use Rattle.story_tables.specs.Delivering.{is_now}
use Rattle.story_tables.proofs.Delivered.{one_choice}
use Rattle.story_tables.proofs.stories.Stories.is_next.Goals as goal

pub returns : goal.returns
returns c h keeps = c.is_now.ensures ∙ ap (λ r. is_now r c.args.k) (c.next_ready.ensures h keeps) ∙ one_choice h c.args.subscriber c.args.k c.args.moment
