use Rattle.std.proofs.Common.{sym, ◌∙◌, arith}
use Rattle.feed_reasons.specs.Verdicts.{passes}
use Rattle.products.proofs.Loops.{find_over, find_hit}
use Rattle.products.proofs.table.Products.first_that_permits.Goals as goal

pub returns-then-permits : goal.returns-then-permits
returns-then-permits c h story keeps judges =
    find_hit (passes h story) c.args.products.now c.loop-name.name-index c.name-item.result (omega arith) c.name-item.is (sym (c.permits.ensures h story keeps judges) ∙ c.if-permits.true)
    ∙ c.loop-name.invariant h story keeps judges

pub loop-name-preserved : goal.loop-name-preserved
loop-name-preserved c h story keeps judges =
    find_over (passes h story) c.args.products.now c.loop-name.name-index c.name-item.result (omega arith) c.name-item.is (sym (c.permits.ensures h story keeps judges) ∙ c.if-permits.false)
    ∙ c.loop-name.invariant h story keeps judges
