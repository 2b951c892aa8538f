use Rattle.std.proofs.Common.{◌≡◌, true, [], ◌∷◌, cond, Some, subst, add-zero}
use Rattle.news_types.specs.Names.{same}
use Rattle.news_types.specs.Products.{Subscriber}
use Rattle.products.specs.Keeps.{Keeps, subscriber_of}
use Rattle.products.proofs.table.Products.apply.Goals as goal

pub returns-in-AddSubscriber : goal.returns-in-AddSubscriber
returns-in-AddSubscriber c command product count subscriber names keeps is =
    let name = c.in-AddSubscriber.name in
    let kept = c.in-AddSubscriber.subscriber in
    let step = rw c.in-AddSubscriber.is at is in
    let active : kept.active ≡ true = step.1 in
    let off : kept.off ≡ [] = step.2 in
    let new : Subscriber = record { format = kept.format; active = true; products = kept.products; off = []; lag = kept.lag } in
    let alike : subscriber_of kept ≡ new = λ i. record { format = kept.format; active = active i; products = kept.products; off = off i; lag = kept.lag } in
    rw (step.0, add-zero)
    (subst (λ s. Keeps c.add_subscriber.new.self product count (λ other. cond (same name other) (Some s) (subscriber other)) (name ∷ names)) alike
    (c.add_subscriber.ensures product count subscriber names keeps step.3))
