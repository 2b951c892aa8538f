use Rattle.std.proofs.Common.{◌∷◌}
use Rattle.news_types.specs.Outcome.{entry_of}
use Rattle.newsroom_rows.proofs.session.Session.decide.Goals as goal

pub returns-in-Change : goal.returns-in-Change
returns-in-Change c =
    let h = c.requires.stands.0 in
    let is = c.requires.stands.1 in
    let e = entry_of c.moment-moment.result c.args.act.now in
    (e ∷ h, c.commit.ensures.stands h e (c.prepare.ensures.stays h is) (c.in-Change.ensures.change h is (c.moment-moment.ensures h is)))
