use Rattle.std.proofs.Common.{sym, ◌∙◌}
use Rattle.newsroom.proofs.SmallActs.{lawful, exact, both_is}
use Rattle.newsroom.proofs.newsroom.Newsroom.legal.Goals as goal

pub returns-clause-value : goal.returns-clause-value
returns-clause-value c h stands = c.both.ensures ∙ both_is c.args.self.now.moment _ c.args.moment _ _ stands.at (c.may_follow.ensures h stands)

pub returns-clause-lawful : goal.returns-clause-lawful
returns-clause-lawful c h stands so =
    lawful h c.args.act.now c.args.moment stands.legal (sym (c.both.ensures ∙ both_is c.args.self.now.moment _ c.args.moment _ _ stands.at (c.may_follow.ensures h stands)) ∙ so)

pub returns-clause-exact : goal.returns-clause-exact
returns-clause-exact c h stands small legal =
    c.both.ensures ∙ both_is c.args.self.now.moment _ c.args.moment _ _ stands.at (c.may_follow.ensures h stands) ∙ exact h c.args.act.now c.args.moment small legal
