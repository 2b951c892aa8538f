use Rattle.std.proofs.Common.{sym, ap, ◌∙◌}
use Rattle.std.specs.Prelude.{option_map}
use Rattle.std.specs.Option.{option_copied}
use Rattle.news_types.specs.Products.{subscribers}
use Rattle.news_types.specs.Answers.{in_order}
use Rattle.told_objects.specs.Members.{objects}
use Rattle.told_objects.specs.Seen.{seen}
use Rattle.story_tables.specs.Pages.{publication_of}
use Rattle.desk_questions.specs.Publications.{destined_row, destinies}
use Rattle.desk_questions.proofs.Listed.{same_objects}
use Rattle.desk_questions.proofs.Destined.{nothing_told, told_by_number}
use Rattle.desk_questions.proofs.published.publication_row.Goals as goal

pub returns : goal.returns
returns c = λ h stands.
    let n = c.args.number in
    let kept = c.in-Some.published.now in
    let stories = c.stories.ensures.keeps h stands in
    c.in_ok-row.ensures
    ∙ told_by_number h n kept (objects seen c.in_ok-due.due.items) c.stands-stands.result
    (sym (ap (option_map (publication_of n)) (ap option_copied c.in-Some.is)) ∙ c.published.ensures h stories)
    (same_objects seen destined_row c.in_ok-due.due.items (destinies h n (in_order (subscribers h))) (c.in_ok-due.ensures h stands))
    (c.stands-stands.ensures h (c.dues.ensures h stands))

pub returns-in_default : goal.returns-in_default
returns-in_default c = λ h stands.
    let n = c.args.number in
    c.new.ensures
    ∙ nothing_told h n (sym (ap (option_map (publication_of n)) (ap option_copied c.in_default.is)) ∙ c.published.ensures h (c.stories.ensures.keeps h stands))
