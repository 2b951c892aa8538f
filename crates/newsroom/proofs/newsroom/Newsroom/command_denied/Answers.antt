use Rattle.std.proofs.Common.{sym, ◌∙◌}
use Rattle.desk_rules.specs.Asked.{caller_denial}
use Rattle.newsroom.specs.Reasons.{rest_denial}
use Rattle.newsroom.proofs.Reasons.{stop_here, go_on, whole}
use Rattle.newsroom.proofs.newsroom.Newsroom.command_denied.Goals as goal

pub returns-in-Some : goal.returns-in-Some
returns-in-Some c h stands =
    stop_here (caller_denial h c.args.caller.now c.args.command.now) (rest_denial h c.args.caller.now c.args.command.now c.args.moment) c.in-Some.denial (sym (c.caller_denied.ensures h stands.rules) ∙ c.in-Some.is)
    ∙ whole h c.args.caller.now c.args.command.now c.args.moment

pub returns : goal.returns
returns c h stands =
    let none = sym (c.caller_denied.ensures h stands.rules) ∙ c.in_default.is in
    c.rest_denied.ensures h stands none
    ∙ go_on (caller_denial h c.args.caller.now c.args.command.now) (rest_denial h c.args.caller.now c.args.command.now c.args.moment) none
    ∙ whole h c.args.caller.now c.args.command.now c.args.moment
