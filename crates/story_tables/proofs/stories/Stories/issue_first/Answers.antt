use Rattle.std.proofs.Common.{sym, ap, ◌∙◌}
use Rattle.std.specs.Option.{option_copied}
use Rattle.news_types.specs.declared.words.Kind.TheVariants as kind
use Rattle.news_types.specs.Items.{Item, named_item}
use Rattle.story_tables.proofs.Issued.{shown_same, story_told}
use Rattle.story_tables.proofs.stories.Stories.issue_first.Goals as goal

pub returns : goal.returns
returns c h keeps same =
    let command = c.args.command.now in
    let i = c.args.item in
    shown_same command kind.First c.args.release h i (named_item command) c.args.targets.now c.in_ok-targets.targets (λ (it : Item). it.story) (λ (it : Item). c.in_ok-story.story) c.issue_with.result same c.in_ok-targets.ensures
    (λ it there. c.in_ok-story.ensures ∙ story_told h i c.in-Some.story.now it (sym (ap option_copied c.in-Some.is) ∙ c.story.ensures _ keeps.items) there)
    (c.issue_with.ensures h keeps)
