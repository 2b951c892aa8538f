use Rattle.std.proofs.Common.{sym, ◌∙◌, arith}
use Rattle.news_types.specs.Filters.{is_filter}
use Rattle.products.proofs.Loops.{all_over, all_hit}
use Rattle.products.proofs.judge.has_filters.Goals as goal

pub returns-then-not-has : goal.returns-then-not-has
returns-then-not-has c h keeps =
    all_hit (is_filter h) c.args.names.now c.loop-name.name-index c.name-item.result (omega arith) c.name-item.is (sym (c.has.ensures h keeps) ∙ c.if-not-has.true)
    ∙ c.loop-name.invariant h keeps

pub loop-name-preserved : goal.loop-name-preserved
loop-name-preserved c h keeps =
    all_over (is_filter h) c.args.names.now c.loop-name.name-index c.name-item.result (omega arith) c.name-item.is (sym (c.has.ensures h keeps) ∙ c.if-not-has.false)
    ∙ c.loop-name.invariant h keeps
