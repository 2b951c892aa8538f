use Rattle.std.proofs.Common.{sym, ◌∙◌, arith}
use Rattle.news_types.specs.Answers.{in_order}
use Rattle.desk_views.specs.Things.{names_of}
use Rattle.list_marks.proofs.Order.{rises, order_length}
use Rattle.list_marks.proofs.Apart.{are_apart}
use Rattle.list_marks.proofs.Counted.{as_counted, few}
use Rattle.list_marks.proofs.Pages.{first_page, next_page, some_names, within, all_counted}
use Rattle.list_marks.proofs.names.name_count.Goals as goal

pub loop-last-init : goal.loop-last-init
loop-last-init c h keeps legal = first_page (in_order (names_of c.args.of h)) c.things-page.result.now (c.things-page.ensures h keeps)

pub overflow_add-count : goal.overflow_add-count
overflow_add-count c =
    let h = c.requires.0 in
    let is = c.loop-last.invariant h c.requires.1.0 c.requires.1.1 in
    let last = sym c.last.ensures.value ∙ sym c.copied.ensures ∙ c.in-Some.is in
    let most = within (in_order (names_of c.args.of h)) c.loop-last.count c.loop-last.page.now c.in-Some.last is last in
    omega (arith, most, order_length (names_of c.args.of h), as_counted h c.args.of, few h c.args.of c.requires.1.1)

pub loop-last-smaller : goal.loop-last-smaller
loop-last-smaller c =
    let h = c.requires.0 in
    let is = c.loop-last.invariant h c.requires.1.0 c.requires.1.1 in
    let last = sym c.last.ensures.value ∙ sym c.copied.ensures ∙ c.in-Some.is in
    let most = within (in_order (names_of c.args.of h)) c.loop-last.count c.loop-last.page.now c.in-Some.last is last in
    let some = some_names (in_order (names_of c.args.of h)) c.loop-last.count c.loop-last.page.now c.in-Some.last is last in
    omega (arith, most, some, order_length (names_of c.args.of h), as_counted h c.args.of, few h c.args.of c.requires.1.1)

pub loop-last-preserved : goal.loop-last-preserved
loop-last-preserved c h keeps legal =
    let is = c.loop-last.invariant h keeps legal in
    let last = sym c.last.ensures.value ∙ sym c.copied.ensures ∙ c.in-Some.is in
    next_page (in_order (names_of c.args.of h)) c.loop-last.count c.loop-last.page.now c.in-Some.last is last
    c.things-page-in-Some.result.now (rises (names_of c.args.of h) (are_apart h c.args.of legal)) (c.things-page-in-Some.ensures h keeps)

pub returns : goal.returns
returns c h keeps legal =
    let none = sym c.last.ensures.value ∙ sym c.copied.ensures ∙ c.in_default.is in
    all_counted (in_order (names_of c.args.of h)) c.loop-last.count c.loop-last.page.now (c.loop-last.invariant h keeps legal) none
    ∙ order_length (names_of c.args.of h) ∙ as_counted h c.args.of
