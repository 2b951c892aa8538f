use Rattle.std.proofs.Common.{Some, sym, ap, ◌∙◌}
use Rattle.std.specs.Option.{option_map}
use Rattle.item_table.specs.declared.table.ItemFacts.{ItemFacts}
use Rattle.story_tables.specs.Views.{version_in}
use Rattle.story_tables.proofs.Found.{item_told}
use Rattle.story_tables.proofs.stories.Stories.version.Goals as goal

pub returns : goal.returns
returns c h keeps =
    let found = item_told h c.args.item c.facts.result c.in_ok-facts.facts (c.facts.ensures _ keeps.items) c.in_ok-facts.was in
    sym (ap (option_map version_in) found.1 ∙ ap (λ (f : ItemFacts). Some f.version) found.2)
