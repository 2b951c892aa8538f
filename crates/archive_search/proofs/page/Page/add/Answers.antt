use Rattle.std.proofs.Common.{◌≡◌, ◌∙◌, ◌+◌, ◌++◌, ◌∷◌, [], ℕ, List, length, arith, ap, sym, length-append}
use Rattle.std.proofs.lemmas.Result.{on_ok_weaker}
use Rattle.archive_search.proofs.Paged.{more_on_page, none_on_page}
use Rattle.archive_search.proofs.page.Page.add.Goals as goal

pub returns-then-not-takes-clause-page : goal.returns-then-not-takes-clause-page
returns-then-not-takes-clause-page c = λ numbers is. record {
  total_is = omega (arith, is.total_is, length-append numbers (c.args.number ∷ []));
  rows_are = none_on_page c.args.page c.args.number c.args.self.now.total numbers c.args.self.now.rows is.total_is is.rows_are c.if-not-takes.ensures;
}

pub returns-clause-page : goal.returns-clause-page
returns-clause-page c = λ numbers is.
    on_ok_weaker c.push.result (λ pushed. record {
      total_is = omega (arith, is.total_is, length-append numbers (c.args.number ∷ []));
      rows_are = pushed ∙ more_on_page c.args.page c.args.number c.args.self.now.total numbers c.args.self.now.rows is.total_is is.rows_are c.if-not-takes.ensures.0 c.if-not-takes.ensures.1;
    }) c.push.ensures
