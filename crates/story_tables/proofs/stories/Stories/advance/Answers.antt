use Rattle.story_tables.proofs.Quiet.{quiet_kept}
use Rattle.story_tables.proofs.stories.Stories.advance.Goals as goal

pub returns : goal.returns
returns c h act keeps later quiet = quiet_kept _ h act c.args.moment quiet keeps.items keeps.publications (c.advance.ensures.keeps _ keeps.queue later)
