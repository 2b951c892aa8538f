use Rattle.std.proofs.Common.{◌∙◌}
use Rattle.news_types.specs.Answers.{publication_at}
use Rattle.news_types.specs.Publications.{pubs}
use Rattle.newsroom.proofs.Framing.{told_publication}
use Rattle.newsroom.proofs.newsroom.Newsroom.ask_publication.Goals as goal

pub publication_count-count-requires : goal.publication_count-count-requires
publication_count-count-requires c =
    let stands = c.requires.1.0 in
    (c.requires.0, (stands.stories, stands.legal, c.requires.1.1))

pub returns : goal.returns
returns c h frame stands =
    c.publication_told.ensures
    ∙ told_publication (pubs h) (publication_at c.args.number (pubs h)) _ c.in_ok-publication.publication (c.publication_count-count.ensures h stands.stories) (c.in_ok-publication.ensures h stands.stories)
