use Rattle.std.proofs.Common.{◌&&◌, not, sym, ap, ◌∙◌}
use Rattle.std.specs.Option.{option_copied, option_map}
use Rattle.news_types.specs.Due.{standing_first}
use Rattle.news_types.specs.Publications.{item, standing}
use Rattle.news_types.proofs.Members.{some_is}
use Rattle.item_table.specs.Asked.{story_of}
use Rattle.story_tables.specs.Ingests.{effect_of}
use Rattle.story_tables.proofs.Found.{item_told}
use Rattle.story_tables.proofs.Ingested.{effect_told}
use Rattle.story_tables.proofs.stories.Stories.effect_on.Goals as goal

pub returns : goal.returns
returns c h keeps held =
    let i = c.args.item in
    let found = item_told h i c.facts.result c.in-Some.facts (c.facts.ensures _ keeps.items) c.in-Some.is in
    let first = standing_first i (standing h) in
    let kept = some_is _ _ (sym (ap option_copied c.in-Some-story.is) ∙ c.story.ensures _ keeps.items ∙ ap (option_map story_of) found.1) in
    ap effect_of c.on_known.ensures
    ∙ effect_told c.args.come.now i c.args.moment first (item h i) found.0 c.in-Some.facts c.as_story.result.now c.state_at-state.result c.args.held c.both-free.result c.is_newer-newer.result
    found.1 found.2 (c.as_story.ensures ∙ kept) held (c.state_at-state.ensures first (c.first.ensures _ _ keeps.publications))
    (c.both-free.ensures ∙ ap (λ b. b && not c.args.held) c.is_untouched.ensures) c.is_newer-newer.ensures
