use Rattle.std.proofs.Common.{◌∙◌, refl, sym, true, false}
use Rattle.news_types.specs.Publications.{pubs}
use Rattle.story_tables.specs.Holding.{newest_of, took_back}
use Rattle.story_tables.proofs.Holding.{has_item_told}
use Rattle.story_tables.proofs.stories.Stories.has_item.Goals as goal

pub returns-then-is_given : goal.returns-then-is_given
returns-then-is_given c h keeps legal at =
    has_item_told h c.args.subscriber.now c.args.item c.args.moment true c.took_back.result legal at
    (sym c.if-is_given.true ∙ c.is_given.ensures ∙ c.soonest.ensures.given _ _ keeps.publications c.args.moment c.args.subscriber.now) (c.took_back.ensures h keeps legal)

pub returns-else-is_given : goal.returns-else-is_given
returns-else-is_given c h keeps legal at =
    c.if-is_given.false
    ∙ has_item_told h c.args.subscriber.now c.args.item c.args.moment false (took_back (newest_of c.args.item (pubs h))) legal at
    (sym c.if-is_given.false ∙ c.is_given.ensures ∙ c.soonest.ensures.given _ _ keeps.publications c.args.moment c.args.subscriber.now) refl
