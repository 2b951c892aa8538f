use Rattle.std.proofs.Common.{◌||◌, ap, ◌∙◌}
use Rattle.news_types.specs.Names.{same}
use Rattle.publish_queue.specs.Keeps.{IsFeed, IsWithFeed}
use Rattle.publish_queue.proofs.Many.{none_of}
use Rattle.publish_queue.proofs.AllFeeds.{in_insert, all_insert, is_first_feed, is_feed_listed, untouched_listed}
use Rattle.publish_queue.proofs.queue.Queue.add_subscriber.Goals as goal

pub returns : goal.returns
returns c = record {
  keeps = λ known keeps new.
      let s = c.args.name in
      let fs = c.args.self.now.feeds in
      let with : IsWithFeed s fs c.add_subscriber.new.self = c.add_subscriber.ensures (keeps.subscribed s ∙ new) in
      record {
        at = keeps.at;
        subscribed = λ t. rw with.names (in_insert t s fs.names.items with.at ∙ ap (λ b. same t s || b) (keeps.subscribed t));
        feeds = is_feed_listed known s _ (rw with.feeds (all_insert (IsFeed known) fs.feeds.items with.at with.feed (is_first_feed known s with.feed (keeps.others s new) with.empty) keeps.feeds));
        others = λ t none. untouched_listed known s t (keeps.others t (none_of _ _ none).1);
        waits = keeps.waits;
        next = keeps.next;
        fair = keeps.fair;
        ordered = with.ordered keeps.ordered;
      };
}
