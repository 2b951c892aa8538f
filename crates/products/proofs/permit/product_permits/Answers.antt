use Rattle.std.proofs.Common.{ap, ◌∙◌}
use Rattle.news_types.specs.Products as facts
use Rattle.products.proofs.permit.product_permits.Goals as goal

pub returns-in-Some : goal.returns-in-Some
returns-in-Some c h story judges =
    rw c.in-Some.is
    (c.permits_by.ensures ∙ ap (facts.permits_by c.args.product.how) (c.matches_with.ensures h story judges.rules judges.said))
