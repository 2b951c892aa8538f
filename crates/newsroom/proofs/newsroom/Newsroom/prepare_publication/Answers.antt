use Rattle.std.proofs.Common.{sym, ◌∙◌}
use Rattle.newsroom.proofs.Issuing.{makes_none, issue_there}
use Rattle.newsroom.proofs.newsroom.Newsroom.prepare_publication.Goals as goal

pub returns-in_default-clause-change : goal.returns-in_default-clause-change
returns-in_default-clause-change c h caller number stands issues legal =
    let command = c.args.command.now in
    absurd (issue_there h caller number c.args.moment command issues legal.2.1 (sym (c.in_ok-issue.ensures h caller stands.stories (makes_none command issues)) ∙ c.in_default.is))

pub returns-clause-change : goal.returns-clause-change
returns-clause-change c h caller number stands issues legal =
    let command = c.args.command.now in
    c.prepare_issue.ensures.change h caller number stands issues legal (sym c.in-Some.is ∙ c.in_ok-issue.ensures h caller stands.stories (makes_none command issues))
