use Rattle.std.proofs.Common.{sym, ap, ◌∙◌, Some}
use Rattle.std.specs.Option.{option_copied, option_map}
use Rattle.story_tables.specs.Pages.{publication_of}
use Rattle.story_tables.proofs.ByNumber.{publication_told}
use Rattle.story_tables.proofs.stories.Stories.publication.Goals as goal

pub returns-in_default : goal.returns-in_default
returns-in_default c h keeps =
    let n = c.args.number in
    sym (ap (λ o. option_map (publication_of n) (option_copied o)) c.in_default.is) ∙ publication_told h n (option_copied c.published.result) (c.published.ensures _ _ keeps.publications)

pub returns : goal.returns
returns c h keeps =
    let n = c.args.number in
    ap Some c.in_ok-publication.ensures ∙ sym (ap (λ o. option_map (publication_of n) (option_copied o)) c.in-Some.is)
    ∙ publication_told h n (option_copied c.published.result) (c.published.ensures _ _ keeps.publications)
