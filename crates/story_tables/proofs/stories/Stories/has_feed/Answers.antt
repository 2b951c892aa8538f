use Rattle.std.proofs.Common.{refl, ap, ◌∙◌, is_some}
use Rattle.news_types.specs.Names.{is_in}
use Rattle.news_types.specs.Products.{subscribers}
use Rattle.story_tables.proofs.Publishing.{told_there}
use Rattle.story_tables.proofs.stories.Stories.has_feed.Goals as goal

pub returns : goal.returns
returns c h keeps = c.is_told.ensures ∙ ap is_some (c.facts.ensures _ keeps.queue) ∙ told_there h c.args.subscriber.now (is_in c.args.subscriber.now (subscribers h)) refl
