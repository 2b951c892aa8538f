use Rattle.std.proofs.Common.{Some, sym, ap, ◌∙◌}
use Rattle.std.specs.Option.{option_copied}
use Rattle.news_types.specs.declared.story.Story.{Story}
use Rattle.news_types.specs.Items.{Item, named_item}
use Rattle.news_types.specs.Publications.{made, first_targets, noted}
use Rattle.story_tables.proofs.Issued.{shown_same, story_told}
use Rattle.story_tables.proofs.stories.Stories.issue_noted.Goals as goal

pub returns : goal.returns
returns c h keeps same =
    let command = c.args.command.now in
    let i = c.args.item in
    let note = c.args.note.now in
    shown_same command c.args.kind c.args.moment h i (named_item command) (first_targets (made h) i) c.in_ok-targets.targets (λ (it : Item). noted (Some note) it.story) (λ (it : Item). c.in_ok-story-2.story) c.issue_with.result same (c.in_ok-targets.ensures h keeps)
    (λ it there. c.in_ok-story-2.ensures ∙ c.in_ok-story.ensures
    ∙ ap (λ (story : Story). noted (Some note) story) (c.as_story.ensures ∙ story_told h i c.in-Some.story.now it (sym (ap option_copied c.in-Some.is) ∙ c.story.ensures _ keeps.items) there))
    (c.issue_with.ensures h keeps)
