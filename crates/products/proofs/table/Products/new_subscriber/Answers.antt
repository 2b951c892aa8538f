use Rattle.std.proofs.Common.{◌≡◌, true, false, nat_lt, refl, sym, ap, ◌∙◌}
use Rattle.std.specs.List.{list_all}
use Rattle.news_types.specs.Products.{is_subscriber}
use Rattle.news_types.specs.declared.words.Thing.TheVariants as thing
use Rattle.news_types.specs.declared.denial.Denial.TheVariants.{Limit}
use Rattle.news_types.specs.Denial.{is_product, unless}
use Rattle.products.proofs.Judged.{new_judged, products_there, subscriber_there}
use Rattle.products.proofs.table.Products.new_subscriber.Goals as goal

pub returns-then-not-has_all : goal.returns-then-not-has_all
returns-then-not-has_all c h format lag keeps =
    let products = c.args.products.now in
    let all : list_all (is_product h) products ≡ false = sym (products_there c.args.self.now h keeps products) ∙ sym c.has_all.ensures ∙ c.if-not-has_all.true in
    rw (new_judged h c.args.subscriber.now format products lag, all) c.unless_there.ensures

pub returns-then-has_subscriber : goal.returns-then-has_subscriber
returns-then-has_subscriber c h format lag keeps =
    let products = c.args.products.now in
    let name = c.args.subscriber.now in
    let all : list_all (is_product h) products ≡ true = sym (products_there c.args.self.now h keeps products) ∙ sym c.has_all.ensures ∙ c.if-not-has_all.false in
    let there : is_subscriber h name ≡ true = sym (subscriber_there c.args.self.now h keeps name) ∙ sym c.has_subscriber.ensures ∙ c.if-has_subscriber.true in
    rw (new_judged h name format products lag, all, there) refl

pub returns : goal.returns
returns c h format lag keeps =
    let products = c.args.products.now in
    let name = c.args.subscriber.now in
    let all : list_all (is_product h) products ≡ true = sym (products_there c.args.self.now h keeps products) ∙ sym c.has_all.ensures ∙ c.if-not-has_all.false in
    let none : is_subscriber h name ≡ false = sym (subscriber_there c.args.self.now h keeps name) ∙ sym c.has_subscriber.ensures ∙ c.if-has_subscriber.false in
    rw (new_judged h name format products lag, all, none) (c.unless_below.ensures ∙ ap (λ n. unless (nat_lt n 256) (Limit thing.Subscriber 256)) (c.len.ensures ∙ keeps.number))
