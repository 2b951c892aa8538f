use Rattle.std.proofs.Common.{sym, ◌∙◌, ap}
use Rattle.news_types.specs.Denial.{or_else}
use Rattle.desk_rules.specs.Asked.{full_denial}
use Rattle.rule_tables.proofs.Reasons.{desks_by}
use Rattle.rule_tables.proofs.rules.Rules.desks_denied.Goals as goal

pub returns-in-Some : goal.returns-in-Some
returns-in-Some c h keeps is =
    let command = c.args.command.now in
    ap (λ o. or_else o (full_denial h command)) (sym c.in-Some.is ∙ c.knows.ensures h keeps.desks) ∙ desks_by h command is

pub returns : goal.returns
returns c h keeps is =
    let command = c.args.command.now in
    c.full.ensures h keeps.desks ∙ ap (λ o. or_else o (full_denial h command)) (sym c.in_default.is ∙ c.knows.ensures h keeps.desks) ∙ desks_by h command is
