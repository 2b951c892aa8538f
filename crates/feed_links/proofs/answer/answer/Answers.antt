use Rattle.std.proofs.Common.{sym, ◌∙◌}
use Rattle.feed_links.proofs.Replying.{replied, with_receipt, with_nothing}
use Rattle.feed_links.proofs.answer.answer.Goals as goal

pub returns-then-is_replied : goal.returns-then-is_replied
returns-then-is_replied g c =
    replied g.K.Keeper.keeper c.args.receiver.now c.take.new.self c.args.bytes.now c.receipt.result c.take.result c.take.ensures.step
    (λ b h. with_receipt c.take.result b c.receipt.result (sym c.is_replied.ensures ∙ c.if-is_replied.true) (c.receipt.ensures b h))

pub returns-else-is_replied : goal.returns-else-is_replied
returns-else-is_replied g c =
    replied g.K.Keeper.keeper c.args.receiver.now c.take.new.self c.args.bytes.now c.of.result c.take.result c.take.ensures.step
    (λ b h. with_nothing c.take.result b c.of.result (sym c.is_replied.ensures ∙ c.if-is_replied.false) c.of.ensures)
