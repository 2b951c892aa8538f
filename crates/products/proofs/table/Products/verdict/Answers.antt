use Rattle.std.proofs.Common.{◌≡◌, Some, sym, ap, ◌∙◌}
use Rattle.std.specs.Option.{option_map}
use Rattle.news_types.specs.Products.{subscriber}
use Rattle.products.specs.Keeps.{subscriber_of}
use Rattle.products.proofs.Changed.{if_ok_map}
use Rattle.products.proofs.Told.{told_none, told_inactive, told_not_target, told_by_blocks}
use Rattle.products.proofs.table.Products.verdict.Goals as goal

pub returns-in_default : goal.returns-in_default
returns-in_default c h story keeps judges =
    let s = c.args.subscriber.now in
    told_none h story c.args.targets.now s (sym (keeps.subscribers s) ∙ ap (option_map subscriber_of) (sym c.in_default.ensures.value))

pub returns-then-not-kept : goal.returns-then-not-kept
returns-then-not-kept c h story keeps judges =
    let s = c.args.subscriber.now in
    let it = subscriber_of c.in-Some.kept.now in
    let there : subscriber h s ≡ Some it = sym (keeps.subscribers s) ∙ ap (option_map subscriber_of) (sym c.in-Some.ensures.value) in
    told_inactive h story c.args.targets.now s it there c.if-not-kept.true

pub returns-then-not-is_target : goal.returns-then-not-is_target
returns-then-not-is_target c h story keeps judges =
    let s = c.args.subscriber.now in
    let it = subscriber_of c.in-Some.kept.now in
    let there : subscriber h s ≡ Some it = sym (keeps.subscribers s) ∙ ap (option_map subscriber_of) (sym c.in-Some.ensures.value) in
    told_not_target h story c.args.targets.now s it there c.if-not-kept.false (sym c.is_target.ensures ∙ c.if-not-is_target.true)

pub returns : goal.returns
returns c =
    let s = c.args.subscriber.now in
    let it = subscriber_of c.in-Some.kept.now in
    if_ok_map c.verdict_by_blocks.result _ _
    (λ told said h story keeps judges.
    let there : subscriber h s ≡ Some it = sym (keeps.subscribers s) ∙ ap (option_map subscriber_of) (sym c.in-Some.ensures.value) in
    said h story keeps judges
    ∙ told_by_blocks h story c.args.targets.now s it there c.if-not-kept.false (sym c.is_target.ensures ∙ c.if-not-is_target.false))
    c.verdict_by_blocks.ensures
