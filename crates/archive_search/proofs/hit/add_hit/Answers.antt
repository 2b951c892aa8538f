use Rattle.std.proofs.Common.{◌≡◌, ◌++◌, ◌∙◌, List, ap, sym, append-nil}
use Rattle.std.specs.Prelude.{option_copied}
use Rattle.news_types.specs.Answers.{publication_at}
use Rattle.news_types.specs.Publications.{pubs}
use Rattle.archive_search.specs.declared.hit.Hit.{Hit}
use Rattle.archive_search.proofs.Reported.{hit_of_kept, hit_of_none}
use Rattle.archive_search.proofs.hit.add_hit.Goals as goal

pub returns-in_ok-push-in-Some : goal.returns-in_ok-push-in-Some
returns-in_ok-push-in-Some g c = λ b stands.
    let told = hit_of_kept c.args.number (option_copied c.published.result) (publication_at c.args.number (pubs b.list)) (c.published.ensures b stands) c.in-Some.published.now (ap option_copied c.in-Some.is) c.told_of.result c.told_of.ensures in
    c.in_ok-push-in-Some.ensures.items ∙ ap (λ (l : List Hit). c.args.hits.now.items ++ l) (sym told)

pub returns-in-None : goal.returns-in-None
returns-in-None g c = λ b stands.
    let told = hit_of_none c.args.number (option_copied c.published.result) (publication_at c.args.number (pubs b.list)) (c.published.ensures b stands) (ap option_copied c.in-None.is) in
    sym (append-nil c.args.hits.now.items) ∙ ap (λ (l : List Hit). c.args.hits.now.items ++ l) (sym told)
