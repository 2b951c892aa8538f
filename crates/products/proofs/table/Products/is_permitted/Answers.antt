use Rattle.std.proofs.Common.{◌≡◌, Bool, true, false, not, ◌&&◌, Some, None, refl, sym, ap, ◌∙◌}
use Rattle.std.specs.List.{list_any}
use Rattle.std.specs.Option.{option_map}
use Rattle.news_types.specs.Products as facts
use Rattle.products.specs.Keeps.{subscriber_of}
use Rattle.products.proofs.table.Products.is_permitted.Goals as goal

targeted : (a b c : Bool) → (a && (b && c)) ≡ (a && true && b && c)
targeted true b c = refl
targeted false b c = refl

pub returns-then-is_target : goal.returns-then-is_target
returns-then-is_target c h story keeps judges blocking =
    let name = c.args.subscriber.now in
    let sub : facts.subscriber h name ≡ Some (subscriber_of c.in-Some.kept.now) = sym (keeps.subscribers name) ∙ ap (option_map subscriber_of) (sym c.in-Some.ensures.value) in
    let target : facts.is_target name c.args.targets.now ≡ true = sym c.is_target.ensures ∙ c.if-is_target.true in
    let kept = c.in-Some.kept.now in
    rw (sub, target)
    (c.permits_to.ensures h story keeps judges blocking
    ∙ targeted kept.active (not (facts.is_blocked h story kept.off)) (list_any (λ product. facts.product_permits h story (facts.product h product)) kept.products))

pub returns-in-None : goal.returns-in-None
returns-in-None c h story keeps judges blocking =
    let name = c.args.subscriber.now in
    let none : facts.subscriber h name ≡ None = sym (keeps.subscribers name) ∙ ap (option_map subscriber_of) (sym c.in-None.ensures.value) in
    rw none refl
