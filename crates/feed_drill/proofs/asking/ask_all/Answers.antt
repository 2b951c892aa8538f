use Rattle.std.proofs.Common.{◌+◌, List, length, drop, refl, sym, ap, subst, ◌∙◌, arith}
use Rattle.news_types.specs.History.{History}
use Rattle.news_room.specs.Stands.{Stands}
use Rattle.drill_plan.specs.declared.planned.Planned.{Planned}
use Rattle.feed_drill.specs.Requests.{asked, given, with_list}
use Rattle.feed_drill.proofs.Asked.{given_next, given_end}
use Rattle.feed_drill.proofs.Readings.{on_err, read_never, read_again, read_for_each, read_for_some, some_left, none_left}
use Rattle.feed_drill.proofs.asking.ask_all.Goals as goal

pub ask-requires-clause-stands : goal.ask-requires-clause-stands
ask-requires-clause-stands g c =
    let start = c.requires.stands in
    let so_far = c.loop-plan.invariant.0 start.0 start.1 in
    (with_list so_far.0 start.0, so_far.1)

pub loop-plan-init : goal.loop-plan-init
loop-plan-init g c = (λ b is. (b.list, is, refl), (0, omega arith, read_never g.C.Clock.clock _))

pub loop-plan-preserved : goal.loop-plan-preserved
loop-plan-preserved g c =
    let p = c.in-Some.planned in
    let next = c.in_ok-planned.ensures in
    let read = c.loop-plan.invariant.1 in
    let long = some_left c.loop-plan.plan p (sym c.in-Some.is ∙ next.first) in (
      λ b is.
          let so_far = c.loop-plan.invariant.0 b is in (
            asked p so_far.0,
            c.in_ok-ask.ensures (with_list so_far.0 b) so_far.1,
            ap (λ (planned : List Planned). given (asked p so_far.0) planned) next.rest ∙ sym (given_next so_far.0 c.loop-plan.plan p (sym c.in-Some.is ∙ next.first)) ∙ so_far.2,
          ),
      (
        read.0 + 1,
        omega (arith, read.1, long, ap length next.rest),
        read_again g.C.Clock.clock read.0 _ _ _ _ read.2 c.now.ensures.told c.now.ensures.given,
      ),
    )

pub returns-clause-given : goal.returns-clause-given
returns-clause-given g c = λ b is.
    let so_far = c.loop-plan.invariant.0 b is in
    let all = sym (given_end so_far.0 c.loop-plan.plan (sym c.in_default.is ∙ c.in_ok-planned.ensures.first)) ∙ so_far.2 in
    subst (λ (h : History). Stands g.K.Keeper.keeper c.loop-plan.room (with_list h b)) all so_far.1

pub returns-clause-read : goal.returns-clause-read
returns-clause-read g c =
    let read = c.loop-plan.invariant.1 in
    read_for_each g.C.Clock.clock read.0 _ _ _ _ read.1 (none_left c.loop-plan.plan (sym c.in_default.is ∙ c.in_ok-planned.ensures.first)) read.2

pub returns-in_err-ask-clause-stopped : goal.returns-in_err-ask-clause-stopped
returns-in_err-ask-clause-stopped g c =
    let read = c.loop-plan.invariant.1 in
    let long = some_left c.loop-plan.plan c.in-Some.planned (sym c.in-Some.is ∙ c.in_ok-planned.ensures.first) in
    on_err c.from_residual-in_err-ask.result
    (read_for_some g.C.Clock.clock (read.0 + 1) (length (drop 1 c.loop-plan.plan)) (length c.args.plan) _ _ (omega (arith, read.1, long))
    (read_again g.C.Clock.clock read.0 _ _ _ _ read.2 c.now.ensures.told c.now.ensures.given))
