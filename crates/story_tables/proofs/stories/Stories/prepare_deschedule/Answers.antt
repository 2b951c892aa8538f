use Rattle.std.proofs.Common.{refl, sym, subst, ◌∷◌}
use Rattle.news_types.specs.declared.entry.Act.TheVariants.{Request}
use Rattle.news_types.specs.declared.command.Command.TheVariants.{Deschedule}
use Rattle.news_types.specs.Outcome.{entry_of}
use Rattle.story_tables.specs.Feeds.{FeedsFor}
use Rattle.story_tables.proofs.Found.{reply_is}
use Rattle.story_tables.proofs.Descheduling.{deschedule_publications, deschedule_feeds}
use Rattle.story_tables.proofs.stories.Stories.prepare_deschedule.Goals as goal

pub returns-clause-change : goal.returns-clause-change
returns-clause-change c h caller number keeps counted legal =
    let m = c.args.moment in
    let i = c.args.item in
    record {
      at = refl;
      reply = reply_is c.args.entries _ i _ counted refl;
      items = c.in_ok-items.ensures.change h caller number keeps refl;
      publications = deschedule_publications h m number i caller legal c.withdraw.result c.withdraw.ensures;
      feeds = subst (λ f. FeedsFor f h (entry_of m (Request caller number (Deschedule i)) ∷ h)) (sym c.withdrawal.ensures) (deschedule_feeds h m number i caller legal c.first.result c.in_ok-spans.spans (c.in_ok-spans.ensures _ _ keeps.publications) (c.first.ensures _ _ keeps.publications));
    }
