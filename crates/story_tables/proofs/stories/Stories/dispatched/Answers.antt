use Rattle.std.proofs.Common.{◌∙◌}
use Rattle.story_tables.proofs.ByNumber.{dispatch_told, none_dispatched}
use Rattle.story_tables.proofs.stories.Stories.dispatched.Goals as goal

pub returns-in_default : goal.returns-in_default
returns-in_default c h keeps there =
    none_dispatched h c.args.subscriber.now c.args.k c.number.result (c.number.ensures _ keeps.queue) there c.in_default.is

pub returns : goal.returns
returns c h keeps there =
    c.in_ok-publication.ensures h keeps
    ∙ dispatch_told h c.args.subscriber.now c.args.k c.in-Some.number c.number.result (c.number.ensures _ keeps.queue) there c.in-Some.is
