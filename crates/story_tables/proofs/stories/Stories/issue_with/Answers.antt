use Rattle.std.proofs.Common.{◌≡◌, Some, sym, ap, ◌∙◌}
use Rattle.std.specs.Option.{option_map}
use Rattle.news_types.specs.Items.{named_item, version_after}
use Rattle.news_types.specs.Publications.{item}
use Rattle.item_table.specs.declared.table.ItemFacts.{ItemFacts}
use Rattle.story_tables.proofs.Found.{item_told, version_told}
use Rattle.story_tables.proofs.Issued.{shown_with}
use Rattle.story_tables.proofs.stories.Stories.issue_with.Goals as goal

pub version_after-requires : goal.version_after-requires
version_after-requires c =
    let h = c.requires.0 in
    version_told h c.named_item-item.result c.facts.result c.in_ok-facts.facts (c.facts.ensures _ c.requires.1.0.items) c.in_ok-facts.was c.requires.1.2

pub returns : goal.returns
returns c h keeps =
    let command = c.args.command.now in
    let i = c.named_item-item.result in
    let item_is = c.named_item-item.ensures in
    let found = item_told h i c.facts.result c.in_ok-facts.facts (c.facts.ensures _ keeps.items) c.in_ok-facts.was in
    let there : item h (named_item command) ≡ Some found.0 = ap (item h) (sym item_is) ∙ found.1 in
    let version : c.version_after.result ≡ version_after command found.0.version = c.version_after.ensures ∙ ap (λ (f : ItemFacts). version_after command f.version) (sym found.2) in
    (λ j. Some (record { item = item_is j; version = version j; kind = c.args.kind; release = c.args.release; targets = c.args.targets; story = c.args.story }))
    ∙ sym (ap (option_map (shown_with command c.args.kind c.args.release (named_item command) c.args.targets (λ it. c.args.story))) there)
