use Rattle.story_tables.proofs.Found.{item_told, item_untold}
use Rattle.story_tables.proofs.Ingested.{item_kept, item_canceled, canceled_absent}
use Rattle.story_tables.proofs.stories.Stories.prepare_canceled.Goals as goal

pub returns-in_default-clause-change : goal.returns-in_default-clause-change
returns-in_default-clause-change c h m provider come keeps does =
    let none = item_untold h c.args.item c.facts.result (c.facts.ensures _ keeps.items) c.in_default.not-Some in
    item_kept h m provider come c.nothing.result c.nothing.ensures (canceled_absent h m provider come c.args.item does none)

pub returns-clause-change : goal.returns-clause-change
returns-clause-change c h m provider come keeps does =
    let found = item_told h c.args.item c.facts.result c.in-Some.facts (c.facts.ensures _ keeps.items) c.in-Some.is in
    item_canceled h m provider come c.set.result c.args.item found.0 c.in-Some.facts c.moved.result does found.1 found.2 c.moved.ensures c.set.ensures
