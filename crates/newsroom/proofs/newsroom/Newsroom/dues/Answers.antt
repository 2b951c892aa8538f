use Rattle.newsroom.proofs.newsroom.Newsroom.dues.Goals as goal

pub returns : goal.returns
returns c h stands = stands.dues
