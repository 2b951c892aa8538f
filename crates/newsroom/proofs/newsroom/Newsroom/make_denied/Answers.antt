use Rattle.std.proofs.Common.{None, sym, ◌∙◌}
use Rattle.news_types.specs.Denial.{items_full}
use Rattle.desk_rules.specs.Asked.{knows_denial, may_denial}
use Rattle.newsroom.proofs.Reasons.{stop_here, go_on, make_rest}
use Rattle.newsroom.proofs.newsroom.Newsroom.make_denied.Goals as goal

pub returns-in-Some : goal.returns-in-Some
returns-in-Some c h m stands none is =
    stop_here _ _ c.in-Some.denial (sym (c.knows.ensures h stands.rules) ∙ c.in-Some.is) ∙ make_rest h c.args.caller.now c.args.command.now m is none

pub returns-in-Some-may : goal.returns-in-Some-may
returns-in-Some-may c h m stands none is =
    stop_here (may_denial h c.args.caller.now c.args.command.now None) (items_full h) c.in-Some-may.denial (sym (c.may.ensures h stands.rules) ∙ c.in-Some-may.is)
    ∙ go_on (knows_denial h c.args.command.now) _ (sym (c.knows.ensures h stands.rules) ∙ c.in_default.is)
    ∙ make_rest h c.args.caller.now c.args.command.now m is none

pub returns : goal.returns
returns c h m stands none is =
    c.items_full.ensures h stands.stories
    ∙ go_on (may_denial h c.args.caller.now c.args.command.now None) (items_full h) (sym (c.may.ensures h stands.rules) ∙ c.in_default-may.is)
    ∙ go_on (knows_denial h c.args.command.now) _ (sym (c.knows.ensures h stands.rules) ∙ c.in_default.is)
    ∙ make_rest h c.args.caller.now c.args.command.now m is none
