use Rattle.std.proofs.Common.{sym}
use Rattle.newsroom.proofs.Recorded.{unpublished_stays}
use Rattle.newsroom.proofs.newsroom.Newsroom.prepare_unpublished.Goals as goal

pub returns-clause-change : goal.returns-clause-change
returns-clause-change c h stands does silent = record {
  parts = c.in_ok-parts.ensures.change h stands.stories stands.entries (sym does) silent;
  dues = c.nothing-dues.ensures.change h _ (unpublished_stays h c.args.moment c.args.provider.now c.args.come.now c.args.effect.now does silent);
}

pub returns-clause-room : goal.returns-clause-room
returns-clause-room c = record { parts = c.in_ok-parts.ensures.room; dues = c.nothing-dues.ensures.room _ }
