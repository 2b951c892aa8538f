use Rattle.std.specs.Option.{option_copied}
use Rattle.story_tables.proofs.ByNumber.{publication_told}
use Rattle.story_tables.proofs.stories.Stories.published.Goals as goal

pub returns : goal.returns
returns c h keeps = publication_told h c.args.number (option_copied c.published.result) (c.published.ensures _ _ keeps.publications)
