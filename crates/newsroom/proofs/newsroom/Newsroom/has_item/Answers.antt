use Rattle.newsroom.proofs.newsroom.Newsroom.has_item.Goals as goal

pub returns : goal.returns
returns c h stands = c.has_item.ensures h stands.stories stands.legal stands.at
