use Rattle.story_tables.proofs.Placed.{stands_newest, stands_found}
use Rattle.story_tables.proofs.stories.Stories.entry.Goals as goal

pub returns-clause-found : goal.returns-clause-found
returns-clause-found c h keeps = c.entry.ensures _ keeps.queue (stands_newest h)

pub returns-clause-stands : goal.returns-clause-stands
returns-clause-stands c h keeps stands le =
    stands_found h c.args.subscriber.now c.args.number c.args.release c.entry.result (c.entry.ensures _ keeps.queue (stands_newest h)) stands le
