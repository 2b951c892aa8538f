use Rattle.std.proofs.Common.{sym, ap, ◌∙◌}
use Rattle.std.specs.Option.{option_copied}
use Rattle.news_types.specs.Due.{standing_first}
use Rattle.news_types.specs.Publications.{standing}
use Rattle.story_tables.proofs.Found.{item_told, row_told}
use Rattle.story_tables.proofs.stories.Stories.item_row.Goals as goal

pub returns : goal.returns
returns c h keeps =
    let i = c.args.item in
    let found = item_told h i c.facts.result c.in-Some.facts (c.facts.ensures _ keeps.items) c.in-Some.is in
    let from = c.state_at.ensures (standing_first i (standing h)) (c.first.ensures _ _ keeps.publications) in
    row_told h i c.args.moment c.args.place c.args.holder found.0 c.in-Some.facts c.state_at.result c.in-Some-story.story.now c.in_ok-story.story found.1 found.2 from
    (sym (ap option_copied c.in-Some-story.is) ∙ c.story.ensures _ keeps.items) (c.in_ok-story.ensures ∙ c.as_story.ensures)
