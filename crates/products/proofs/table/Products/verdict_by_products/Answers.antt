use Rattle.std.proofs.Common.{sym, ap, ◌∙◌}
use Rattle.feed_reasons.specs.declared.verdict.Verdict.TheVariants.{Refused}
use Rattle.feed_reasons.specs.Verdicts.{by_products}
use Rattle.products.proofs.table.Products.verdict_by_products.Goals as goal

pub returns-in-Some : goal.returns-in-Some
returns-in-Some c h story keeps judges =
    ap (by_products h story c.args.products.now) (sym c.in-Some.is ∙ c.first_that_permits.ensures h story keeps judges)

pub returns-in_ok-refusals-in-None : goal.returns-in_ok-refusals-in-None
returns-in_ok-refusals-in-None c h story keeps judges =
    ap Refused (c.in_ok-refusals-in-None.ensures h story keeps judges)
    ∙ ap (by_products h story c.args.products.now) (sym c.in-None.is ∙ c.first_that_permits.ensures h story keeps judges)
