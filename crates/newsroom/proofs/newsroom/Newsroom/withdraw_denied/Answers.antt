use Rattle.std.proofs.Common.{Some, sym, ap, ◌∙◌}
use Rattle.news_types.specs.Due.{standing_first, release_of}
use Rattle.news_types.specs.Publications.{state, standing}
use Rattle.news_types.specs.Denial.{or_else, release_denial}
use Rattle.desk_rules.specs.Asked.{may_denial}
use Rattle.newsroom.proofs.Reasons.{stop_here, go_on, withdraw_gone, withdraw_rest}
use Rattle.newsroom.proofs.newsroom.Newsroom.withdraw_denied.Goals as goal

pub returns-in_default : goal.returns-in_default
returns-in_default c h stands none is =
    let there = ap (λ i. state h i c.args.moment) (sym c.named_item-item.ensures) ∙ sym (c.state.ensures h stands.stories) ∙ c.in_default.is in
    withdraw_gone h c.args.caller.now c.args.moment c.args.command.now is there

pub returns-in-Some-may : goal.returns-in-Some-may
returns-in-Some-may c h stands none is =
    let there = ap (λ i. state h i c.args.moment) (sym c.named_item-item.ensures) ∙ sym (c.state.ensures h stands.stories) ∙ c.in-Some.is in
    stop_here (may_denial h c.args.caller.now c.args.command.now (Some c.in-Some.state)) _ c.in-Some-may.denial (sym (c.may.ensures h stands.rules) ∙ c.in-Some-may.is)
    ∙ ap (λ i. or_else (may_denial h c.args.caller.now c.args.command.now (Some c.in-Some.state)) (release_denial c.args.command.now c.in-Some.state (release_of (standing_first i (standing h))))) c.named_item-item.ensures ∙ withdraw_rest h c.args.caller.now c.args.moment c.args.command.now c.in-Some.state is none there

pub returns : goal.returns
returns c h stands none is =
    let there = ap (λ i. state h i c.args.moment) (sym c.named_item-item.ensures) ∙ sym (c.state.ensures h stands.stories) ∙ c.in-Some.is in
    c.release_denied.ensures ∙ ap (release_denial c.args.command.now c.in-Some.state) (c.release.ensures h stands.stories)
    ∙ go_on (may_denial h c.args.caller.now c.args.command.now (Some c.in-Some.state)) _ (sym (c.may.ensures h stands.rules) ∙ c.in_default-may.is)
    ∙ ap (λ i. or_else (may_denial h c.args.caller.now c.args.command.now (Some c.in-Some.state)) (release_denial c.args.command.now c.in-Some.state (release_of (standing_first i (standing h))))) c.named_item-item.ensures ∙ withdraw_rest h c.args.caller.now c.args.moment c.args.command.now c.in-Some.state is none there
