use Rattle.std.proofs.Common.{ℕ, ◌∙◌, sym, ap}
use Rattle.news_types.specs.Due.{standing_first}
use Rattle.news_types.specs.Items.{named_item}
use Rattle.news_types.specs.Publications.{item, standing}
use Rattle.item_table.specs.declared.change.Step.TheVariants as step
use Rattle.story_tables.specs.Asked.{set_by}
use Rattle.story_tables.proofs.Silent.{item_set, item_stays}
use Rattle.story_tables.proofs.Found.{item_told, item_untold, version_told, setting_is}
use Rattle.story_tables.proofs.stories.Stories.set_to.Goals as goal

pub returns-in_default-clause-change : goal.returns-in_default-clause-change
returns-in_default-clause-change c h caller number keeps old given =
    let none = item_untold h c.named_item-item.result c.facts.result (c.facts.ensures _ keeps.items) c.in_default.not-Some in
    item_stays h c.args.moment number caller c.args.command.now c.nothing.result old (ap (item h) (sym c.named_item-item.ensures) ∙ none) c.nothing.ensures

pub version_after-requires : goal.version_after-requires
version_after-requires c =
    let h = c.requires.0 in
    version_told h c.named_item-item.result c.facts.result c.in-Some.facts (c.facts.ensures _ c.requires.1.0.items) c.in-Some.is c.requires.1.2

pub returns-clause-change : goal.returns-clause-change
returns-clause-change c h caller number keeps old given =
    let command = c.args.command.now in
    let i = c.named_item-item.result in
    let found = item_told h i c.facts.result c.in-Some.facts (c.facts.ensures _ keeps.items) c.in-Some.is in
    let there = ap (item h) (sym c.named_item-item.ensures) ∙ found.1 in
    let first = standing_first i (standing h) in
    let from = c.state_at-state.ensures first (c.first.ensures _ _ keeps.publications) in
    item_set h c.args.moment number caller command c.set.result found.0 old there
    (c.set.ensures ∙ setting_is command c.args.moment first found.0 c.in-Some.facts i c.version_after.result c.state_after.result c.state_at-state.result c.args.story found.2 c.named_item-item.ensures from c.state_after.ensures c.version_after.ensures given
    ∙ ap (λ (n : ℕ). step.Set (named_item command) (set_by command c.args.moment (standing_first n (standing h)) found.0)) c.named_item-item.ensures)
