use Rattle.newsroom.proofs.Telling.{told_check}
use Rattle.newsroom.proofs.newsroom.Newsroom.ask_check.Goals as goal

pub publication_count-requires : goal.publication_count-requires
publication_count-requires c =
    let stands = c.requires.1.0 in
    (c.requires.0, (stands.stories, stands.legal, c.requires.1.1))

pub returns : goal.returns
returns c h frame stands = told_check h _ _ _ stands.entries stands.at (c.publication_count.ensures h stands.stories)
