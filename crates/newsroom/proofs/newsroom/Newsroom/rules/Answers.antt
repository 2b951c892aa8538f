use Rattle.newsroom.proofs.newsroom.Newsroom.rules.Goals as goal

pub returns : goal.returns
returns c h stands = stands.rules
