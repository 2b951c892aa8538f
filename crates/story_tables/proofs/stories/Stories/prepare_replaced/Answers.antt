use Rattle.std.proofs.Common.{◌∙◌, arith}
use Rattle.story_tables.proofs.Found.{item_told, item_untold, version_told}
use Rattle.story_tables.proofs.Ingested.{item_kept, item_replaced, replaced_absent}
use Rattle.story_tables.proofs.stories.Stories.prepare_replaced.Goals as goal

pub returns-in_default-clause-change : goal.returns-in_default-clause-change
returns-in_default-clause-change c h m provider keeps does =
    let none = item_untold h c.args.item c.facts.result (c.facts.ensures _ keeps.items) c.in_default.not-Some in
    item_kept h m provider c.args.come.now c.nothing.result c.nothing.ensures (replaced_absent h m provider c.args.come.now c.args.item does none)

pub overflow_add-facts : goal.overflow_add-facts
overflow_add-facts c =
    let h = c.requires.0 in
    omega (arith, version_told h c.args.item c.facts.result c.in-Some.facts (c.facts.ensures _ c.requires.1.0.items) c.in-Some.is c.requires.1.2)

pub returns-clause-change : goal.returns-clause-change
returns-clause-change c h m provider keeps does =
    let found = item_told h c.args.item c.facts.result c.in-Some.facts (c.facts.ensures _ keeps.items) c.in-Some.is in
    item_replaced h m provider c.args.come.now c.set.result c.args.item found.0 c.in-Some.facts c.in_ok-story.story does found.1 found.2 (c.in_ok-story.ensures ∙ c.in_ok-copy.ensures) c.set.ensures
