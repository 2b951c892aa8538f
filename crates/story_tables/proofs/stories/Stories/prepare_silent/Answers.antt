use Rattle.std.proofs.Common.{◌∷◌, refl, sym, ◌∙◌, subst}
use Rattle.news_types.specs.declared.entry.Act.TheVariants.{Request}
use Rattle.news_types.specs.Outcome.{entry_of}
use Rattle.story_tables.specs.Feeds.{FeedsFor}
use Rattle.story_tables.proofs.Silent.{publications_stay, silent_reply, feeds_for}
use Rattle.story_tables.proofs.Found.{reply_is}
use Rattle.story_tables.proofs.stories.Stories.prepare_silent.Goals as goal

pub returns-clause-change : goal.returns-clause-change
returns-clause-change c h caller number keeps counted silent may =
    let command = c.args.command.now in
    let m = c.args.moment in
    record {
      at = refl;
      reply = reply_is c.args.entries _ c.item_of-item.result _ counted (c.item_of-item.ensures h keeps) ∙ sym (silent_reply h m number caller command silent);
      items = c.in_ok-items.ensures.change h caller number keeps silent;
      publications = publications_stay h m number caller command c.nothing.result silent c.nothing.ensures;
      feeds = subst (λ f. FeedsFor f h (entry_of m (Request caller number command) ∷ h)) (sym c.in_ok-feeds.ensures.step) (feeds_for h m number caller command silent may);
    }

pub returns-clause-room : goal.returns-clause-room
returns-clause-room c = record {
  items = rw c.in_ok-feeds.ensures.items c.in_ok-items.ensures.room;
  publications = rw c.nothing.ensures (record { room = tt });
  feeds = c.in_ok-feeds.ensures.room c.args.moment;
}
