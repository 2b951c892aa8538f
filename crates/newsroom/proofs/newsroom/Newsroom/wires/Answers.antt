use Rattle.newsroom.proofs.newsroom.Newsroom.wires.Goals as goal

pub returns : goal.returns
returns c h stands = stands.wires
