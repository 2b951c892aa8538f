use Rattle.std.proofs.Common.{sym, subst}
use Rattle.news_types.specs.declared.command.Command.TheVariants.{SetSubscriber}
use Rattle.news_types.specs.Products.{product, subscriber}
use Rattle.products.specs.Steps.{IsStep}
use Rattle.products.proofs.Changed.{if_ok_map, set_is_step}
use Rattle.products.proofs.table.Products.prepare_step.Goals as goal

pub returns-in-SetSubscriber-clause-step : goal.returns-in-SetSubscriber-clause-step
returns-in-SetSubscriber-clause-step c h keeps allowed =
    let name = c.in-SetSubscriber.subscriber in
    let active = c.in-SetSubscriber.active in
    let products = c.in-SetSubscriber.products in
    let off = c.in-SetSubscriber.off in
    let lag = c.in-SetSubscriber.lag in
    rw c.in-SetSubscriber.is
    (if_ok_map c.prepare_other.result _ _
    (λ made is. subst (λ s. IsStep s (SetSubscriber name active products off lag) (product h) (subscriber h)) (sym is) (set_is_step c.args.self.now h keeps name active products off lag (rw c.in-SetSubscriber.is at allowed)))
    c.prepare_other.ensures.made)
