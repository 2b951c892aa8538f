use Rattle.newsroom.proofs.Recorded.{withdraws}
use Rattle.newsroom.proofs.newsroom.Newsroom.prepare_deschedule.Goals as goal

pub returns-clause-change : goal.returns-clause-change
returns-clause-change c h caller number stands legal = record {
  parts = c.in_ok-parts.ensures.change h caller number stands.stories stands.entries legal;
  dues = c.in_ok-dues.ensures.change h _ (withdraws h c.args.moment caller number c.args.item legal _ (c.numbers-numbers.ensures h stands.stories));
}
