use Rattle.std.proofs.Common.{◌∙◌}
use Rattle.publish_queue.proofs.OneFeed.{own_added}
use Rattle.publish_queue.proofs.Comings.{next_added}
use Rattle.publish_queue.proofs.AllFeeds.{feeds_added, still_untouched, apart_from, subscribed_still}
use Rattle.publish_queue.proofs.queue.Queue.add.Goals as goal

pub add_later-requires-clause-fits : goal.add_later-requires-clause-fits
add_later-requires-clause-fits c = c.requires.room.fits.own

pub add-requires-clause-fits : goal.add-requires-clause-fits
add-requires-clause-fits c = c.requires.room.fits.each

pub returns : goal.returns
returns c = record {
  keeps = λ known p keeps le number release alike fair listed. record {
    at = keeps.at;
    subscribed = subscribed_still _ _ known.names c.add.ensures.names keeps.subscribed;
    feeds = feeds_added known p c.args.due.now _ _ (rw (number, ← keeps.at) c.add.ensures.spread) (rw release le) fair alike keeps.feeds;
    others = λ s none. still_untouched known p s (apart_from s p known.names listed none) (keeps.others s none);
    waits = own_added known.moment p known.publications _ (λ out. c.add_later.ensures.out (rw (keeps.at, ← release) out) ∙ keeps.waits)
        (λ later. rw (← keeps.waits, number, release) (c.add_later.ensures.later (rw (keeps.at, ← release) later)));
    next = next_added known.publications known.moment p c.args.due.now c.args.self.now.next _ fair.agree c.requires.differ alike keeps.next (rw (release, ← keeps.at) c.next_with-self.ensures);
    fair = (fair, keeps.fair);
    ordered = c.add.ensures.ordered keeps.ordered;
  };
}
