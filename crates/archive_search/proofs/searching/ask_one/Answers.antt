use Rattle.std.proofs.Common.{◌≡◌, ◌∙◌, ◌++◌, ℕ, List, ap, sym, subst, append-nil}
use Rattle.std.specs.Prelude.{option_copied}
use Rattle.std.proofs.lemmas.Result.{on_ok_weaker}
use Rattle.news_types.specs.Publications.{pubs}
use Rattle.news_types.specs.Answers.{publication_at}
use Rattle.archive_query.specs.View.{query_of}
use Rattle.archive_search.specs.Pages.{IsPageOf, hits_at}
use Rattle.archive_search.proofs.Found.{none_found, none_meant, one_found, none_more}
use Rattle.archive_search.proofs.searching.ask_one.Goals as goal

pub returns-in_default-clause-page : goal.returns-in_default-clause-page
returns-in_default-clause-page g c = λ b numbers stands is.
    let q = query_of c.args.query.now in
    let found = publication_at c.args.number (pubs b.list) in
    none_more numbers (hits_at q found) c.args.page c.args.found.now (none_found q c.args.number (option_copied c.published.result) found (c.published.ensures b stands) (ap option_copied c.in_default.is)) is

pub returns-then-not-branch-clause-page : goal.returns-then-not-branch-clause-page
returns-then-not-branch-clause-page g c = λ b numbers stands is.
    let q = query_of c.args.query.now in
    none_more numbers (hits_at q (publication_at c.args.number (pubs b.list))) c.args.page c.args.found.now (none_meant q c.args.number (pubs b.list) (option_copied c.published.result) c.in-Some.published.now (c.published.ensures b stands) (ap option_copied c.in-Some.is) (sym c.in_ok-is_meant.ensures ∙ c.if-not-branch.true)) is

pub returns-clause-page : goal.returns-clause-page
returns-clause-page g c = λ b numbers stands is.
    let q = query_of c.args.query.now in
    let told = one_found q c.args.number (pubs b.list) (option_copied c.published.result) c.in-Some.published.now (c.published.ensures b stands) (ap option_copied c.in-Some.is) (sym c.in_ok-is_meant.ensures ∙ c.if-not-branch.false) in
    on_ok_weaker c.add.result (λ added. subst (λ (l : List ℕ). IsPageOf (numbers ++ l) c.args.page c.add.new.self) (sym told) added) (c.add.ensures.page numbers is)
