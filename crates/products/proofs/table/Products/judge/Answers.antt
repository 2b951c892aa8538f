use Rattle.std.proofs.Common.{ap, ◌∙◌}
use Rattle.news_types.specs.declared.command.Command.TheVariants.{SetSubscriber}
use Rattle.products.specs.Asked.{judge_denial}
use Rattle.products.proofs.table.Products.judge.Goals as goal

pub returns-in-AddProduct : goal.returns-in-AddProduct
returns-in-AddProduct c h keep = rw c.in-AddProduct.is (c.new_product.ensures h c.in-AddProduct.how keep)

pub returns-in-SetProduct : goal.returns-in-SetProduct
returns-in-SetProduct c h keep = rw c.in-SetProduct.is (c.other_product.ensures h c.in-SetProduct.how keep)

pub returns-in-AddSubscriber : goal.returns-in-AddSubscriber
returns-in-AddSubscriber c h keep = rw (c.in-AddSubscriber.is, ← c.as_slice.ensures) (c.new_subscriber.ensures h c.in-AddSubscriber.format c.in-AddSubscriber.lag keep.table)

pub returns-in-SetSubscriber : goal.returns-in-SetSubscriber
returns-in-SetSubscriber c h keep =
    let name = c.in-SetSubscriber.subscriber in
    let active = c.in-SetSubscriber.active in
    rw c.in-SetSubscriber.is (
    c.other_subscriber.ensures h active c.in-SetSubscriber.lag keep
    ∙ ap (λ products. judge_denial h (SetSubscriber name active products c.as_slice-in-SetSubscriber-2.result.now c.in-SetSubscriber.lag)) c.as_slice-in-SetSubscriber.ensures
    ∙ ap (λ off. judge_denial h (SetSubscriber name active c.in-SetSubscriber.products off c.in-SetSubscriber.lag)) c.as_slice-in-SetSubscriber-2.ensures
    )
