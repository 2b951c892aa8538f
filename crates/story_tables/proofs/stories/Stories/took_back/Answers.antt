use Rattle.std.proofs.Common.{◌∙◌, ap}
use Rattle.std.specs.Option.{option_copied}
use Rattle.news_types.specs.Publications.{pubs}
use Rattle.story_tables.specs.Holding.{newest_of}
use Rattle.story_tables.proofs.Newest.{some_took, none_took}
use Rattle.story_tables.proofs.stories.Stories.took_back.Goals as goal

pub returns-in-Some : goal.returns-in-Some
returns-in-Some c h keeps legal =
    c.takes_back.ensures
    ∙ some_took (newest_of c.args.item (pubs h)) (option_copied c.newest.result) c.in-Some.published.now (c.newest.ensures h keeps legal) (ap option_copied c.in-Some.is)

pub returns-in-None : goal.returns-in-None
returns-in-None c h keeps legal = none_took (newest_of c.args.item (pubs h)) (option_copied c.newest.result) (c.newest.ensures h keeps legal) (ap option_copied c.in-None.is)
