use Rattle.std.proofs.Common.{sym, ◌∙◌, arith}
use Rattle.news_types.specs.Products as facts
use Rattle.products.proofs.Loops.{any_over, any_hit}
use Rattle.products.proofs.table.Products.any_permits.Goals as goal

pub returns-then-permits : goal.returns-then-permits
returns-then-permits c h story keeps judges =
    any_hit (λ name. facts.product_permits h story (facts.product h name)) c.args.products.now c.loop-name.name-index c.name-item.result (omega arith) c.name-item.is (sym (c.permits.ensures h story keeps judges) ∙ c.if-permits.true)
    ∙ c.loop-name.invariant h story keeps judges

pub loop-name-preserved : goal.loop-name-preserved
loop-name-preserved c h story keeps judges =
    any_over (λ name. facts.product_permits h story (facts.product h name)) c.args.products.now c.loop-name.name-index c.name-item.result (omega arith) c.name-item.is (sym (c.permits.ensures h story keeps judges) ∙ c.if-permits.false)
    ∙ c.loop-name.invariant h story keeps judges
