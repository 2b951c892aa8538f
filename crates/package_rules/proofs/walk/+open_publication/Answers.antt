use Rattle.std.proofs.Common.{◌∙◌, ◌+◌, ◌-◌, ◌≡◌, ℕ, arith, sym, subst}
use Rattle.package_rules.specs.Opening.{with_opened, with_line, line_of}
use Rattle.package_rules.specs.Walking.{IsAt}
use Rattle.package_rules.proofs.Walking.{at_old, at_line, opened_none, opened_old, was_opened, was_new, first_opened, next_opened, all_opened}
use Rattle.package_rules.proofs.walk.+open_publication.Goals as goal

pub returns-then-levels-eq0 : goal.returns-then-levels-eq0
returns-then-levels-eq0 g t c b w stands at =
    let none : 0 ≡ c.args.levels = omega (arith, c.if-levels-eq0.true) in
    subst (λ (l : ℕ). IsAt c.args.steps.now (with_opened b.list l c.args.depth c.args.number w)) none (subst (IsAt c.args.steps.now) (sym (opened_none b.list c.args.depth c.args.number w)) at)

pub returns-then-not-new : goal.returns-then-not-new
returns-then-not-new g t c b w stands at =
    let old = was_opened c.args.steps.now w c.args.number c.in_ok-new.new at c.in_ok-new.ensures.new c.if-not-new.true in
    subst (IsAt c.is_new.new.steps) (sym (opened_old b.list c.args.levels c.args.depth c.args.number w old))
    (at_old c.args.steps.now c.is_new.new.steps w c.args.number at c.in_ok-new.ensures.lines c.in_ok-new.ensures.knows old)

pub loop-member-init : goal.loop-member-init
loop-member-init g t c b w stands at =
    first_opened b.list c.args.levels c.args.depth c.args.number w c.as_slice-member-items.result.now c.args.steps.now c.is_new.new.steps (λ zero. omega (arith, zero, c.if-levels-eq0.false))
    (was_new c.args.steps.now w c.args.number c.in_ok-new.new at c.in_ok-new.ensures.new c.if-not-new.false) (c.as_slice-member-items.ensures ∙ c.in_ok-members.ensures b stands) at c.in_ok-new.ensures.lines
    c.in_ok-new.ensures.knows

pub loop-member-preserved : goal.loop-member-preserved
loop-member-preserved g t c b w stands at =
    let m = c.member-item.result in
    let new = c.open_publication.new.steps in
    next_opened b.list c.args.levels c.args.depth c.args.number w c.as_slice-member-items.result.now c.loop-member.member-index m c.loop-member.steps new c.loop-member-test.true c.member-item.is
    (c.loop-member.invariant b w stands at)
    (λ v at_v.
    subst (λ (p : ℕ). IsAt new (with_opened b.list (c.args.levels - 1) (c.args.depth + 1) p (with_line (line_of c.args.depth m p) v))) (c.in_ok-publication.ensures b stands)
    (c.in_ok-open_publication.ensures b (with_line (line_of c.args.depth m c.in_ok-publication.publication) v) stands
    (at_line c.loop-member.steps c.put_line.new.steps v (line_of c.args.depth m c.in_ok-publication.publication) at_v c.in_ok-put_line.ensures.lines c.in_ok-put_line.ensures.opened)))

pub returns : goal.returns
returns g t c b w stands at =
    all_opened b.list c.args.levels c.args.depth c.args.number w c.as_slice-member-items.result.now c.loop-member.member-index c.loop-member.steps c.loop-member-test.false (c.loop-member.invariant b w stands at)
