use Rattle.std.proofs.Common.{sym, ap, ◌∙◌}
use Rattle.news_types.specs.Publications.{state}
use Rattle.desk_rules.specs.Asked.{knows_denial}
use Rattle.newsroom.proofs.Reasons.{stop_here, go_on, work_rest}
use Rattle.newsroom.proofs.newsroom.Newsroom.work_denied.Goals as goal

pub returns-in-Some-knows : goal.returns-in-Some-knows
returns-in-Some-knows c h stands none is =
    let there = ap (λ i. state h i c.args.moment) (sym c.named_item.ensures) ∙ sym (c.state.ensures h stands.stories) ∙ c.in-Some.is in
    stop_here (knows_denial h c.args.command.now) _ c.in-Some-knows.denial (sym (c.knows.ensures h stands.rules) ∙ c.in-Some-knows.is)
    ∙ work_rest h c.args.caller.now c.args.moment c.args.command.now c.in-Some.state is none there

pub returns : goal.returns
returns c h stands none is =
    let there = ap (λ i. state h i c.args.moment) (sym c.named_item.ensures) ∙ sym (c.state.ensures h stands.stories) ∙ c.in-Some.is in
    c.may.ensures h stands.rules
    ∙ go_on (knows_denial h c.args.command.now) _ (sym (c.knows.ensures h stands.rules) ∙ c.in_default-knows.is)
    ∙ work_rest h c.args.caller.now c.args.moment c.args.command.now c.in-Some.state is none there
