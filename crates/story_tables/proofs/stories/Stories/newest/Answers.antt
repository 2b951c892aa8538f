use Rattle.std.specs.Option.{option_copied}
use Rattle.story_tables.proofs.Newest.{newest_told}
use Rattle.story_tables.proofs.stories.Stories.newest.Goals as goal

pub returns : goal.returns
returns c h keeps legal =
    newest_told h c.args.item c.last_of-number.result (option_copied c.published.result) legal (c.last_of-number.ensures _ _ keeps.publications) (c.published.ensures _ _ keeps.publications)
