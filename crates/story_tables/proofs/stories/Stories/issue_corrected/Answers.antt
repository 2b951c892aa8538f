use Rattle.std.proofs.Common.{◌∙◌}
use Rattle.news_types.specs.declared.words.Kind.TheVariants as kind
use Rattle.news_types.specs.Items.{Item, named_item}
use Rattle.news_types.specs.Publications.{made, first_targets}
use Rattle.story_tables.proofs.Issued.{shown_same}
use Rattle.story_tables.proofs.stories.Stories.issue_corrected.Goals as goal

pub returns : goal.returns
returns c h keeps same =
    let command = c.args.command.now in
    let i = c.args.item in
    shown_same command kind.Correct c.args.moment h i (named_item command) (first_targets (made h) i) c.in_ok-targets.targets (λ (it : Item). c.args.story.now) (λ (it : Item). c.in_ok-story.story) c.issue_with.result same (c.in_ok-targets.ensures h keeps)
    (λ it there. c.in_ok-story.ensures ∙ c.in_ok-copy.ensures)
    (c.issue_with.ensures h keeps)
