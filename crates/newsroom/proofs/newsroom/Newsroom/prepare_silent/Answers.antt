use Rattle.newsroom.proofs.newsroom.Newsroom.prepare_silent.Goals as goal

pub returns-clause-change : goal.returns-clause-change
returns-clause-change c h caller number stands silent may legal = record {
  parts = c.in_ok-parts.ensures.change h caller number stands.stories stands.entries silent may;
  dues = c.in_ok-dues.ensures.change h c.args.moment caller number silent legal;
}
