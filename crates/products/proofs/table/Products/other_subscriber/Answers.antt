use Rattle.std.proofs.Common.{◌≡◌, true, false, sym, ◌∙◌}
use Rattle.std.specs.List.{list_all}
use Rattle.news_types.specs.Products.{is_subscriber}
use Rattle.news_types.specs.Denial.{is_product}
use Rattle.news_types.specs.declared.words.Thing.TheVariants as thing
use Rattle.products.proofs.Judged.{other_judged, missing_one, products_there, subscriber_there}
use Rattle.products.proofs.table.Products.other_subscriber.Goals as goal

pub returns-then-not-has_all : goal.returns-then-not-has_all
returns-then-not-has_all c h active lag keep =
    let t = c.args.self.now in
    let products = c.args.products.now in
    let name = c.args.subscriber.now in
    let there : is_subscriber h name ≡ true = sym (subscriber_there t h keep.table name) ∙ sym c.has_subscriber.ensures ∙ c.if-not-has_subscriber.false in
    let all : list_all (is_product h) products ≡ false = sym (products_there t h keep.table products) ∙ sym c.has_all.ensures ∙ c.if-not-has_all.true in
    rw (other_judged h name active products c.args.off.now lag, there, all) c.unless_there-then-not-has_all.ensures

pub returns : goal.returns
returns c h active lag keep =
    let t = c.args.self.now in
    let products = c.args.products.now in
    let name = c.args.subscriber.now in
    let there : is_subscriber h name ≡ true = sym (subscriber_there t h keep.table name) ∙ sym c.has_subscriber.ensures ∙ c.if-not-has_subscriber.false in
    let all : list_all (is_product h) products ≡ true = sym (products_there t h keep.table products) ∙ sym c.has_all.ensures ∙ c.if-not-has_all.false in
    rw (other_judged h name active products c.args.off.now lag, there, all, ← c.has_filters.ensures h keep.rules) (c.unless_there-2.ensures ∙ missing_one c.has_filters.result thing.Filter)
