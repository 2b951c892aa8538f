use Rattle.std.proofs.Common.{◌≡◌, false, refl, sym, ◌∙◌, arith}
use Rattle.std.specs.List.{list_any}
use Rattle.news_types.specs.Legal.{is_coming}
use Rattle.publish_queue.specs.Keeps.{Facts, IsFeed}
use Rattle.publish_queue.specs.Many.{IsAdvancedTo, names_in}
use Rattle.publish_queue.proofs.Many.{roomy_by}
use Rattle.publish_queue.proofs.OneFeed.{own_stay, own_left}
use Rattle.publish_queue.proofs.Comings.{own_still, still_coming, next_known}
use Rattle.publish_queue.proofs.AllFeeds.{feeds_go, is_feed_still, is_feed_advanced, have_waiting, subscribed_still, untouched_later}
use Rattle.publish_queue.proofs.queue.Queue.advance.Goals as goal

pub returns-then-not-waits_until-clause-keeps : goal.returns-then-not-waits_until-clause-keeps
returns-then-not-waits_until-clause-keeps c known keeps le =
    let n = c.args.moment in
    let m = known.moment in
    let ps = known.publications in
    let none : list_any (is_coming m n) ps ≡ false = sym (c.waits_until.ensures known keeps) ∙ c.if-not-waits_until.true in
    record {
      at = refl;
      subscribed = keeps.subscribed;
      feeds = λ k d lt. is_feed_still known n _ le none (keeps.feeds k d lt);
      others = λ s absent. untouched_later known n s (keeps.others s absent);
      waits = rw (own_stay ps m n le (own_still m n ps none)) keeps.waits;
      next = λ k. keeps.next k ∙ still_coming m n k ps le none;
      fair = keeps.fair;
      ordered = keeps.ordered;
    }

pub returns-clause-keeps : goal.returns-clause-keeps
returns-clause-keeps c known keeps le =
    let n = c.args.moment in
    let m = known.moment in
    let ps = known.publications in
    let later : Facts = record known { moment = n } in
    let news = c.advance-2.new.self in
    let feeds = feeds_go (IsAdvancedTo n) (IsFeed known) (IsFeed later) _ news.feeds.items c.advance-2.ensures.each (λ f g is r. is_feed_advanced known n f g le is r) keeps.feeds in
    let subscribed = subscribed_still _ _ known.names c.advance-2.ensures.names keeps.subscribed in
    let waits = c.advance.ensures.releases ∙ rw keeps.waits (own_left m n ps le) in
    record {
      at = refl;
      subscribed = subscribed;
      feeds = feeds;
      others = λ s none. untouched_later known n s (keeps.others s none);
      waits = waits;
      next = next_known known.names news.names.items ps n _ _ _ keeps.fair (λ s none. (keeps.others s none).due) news.named subscribed waits (have_waiting later _ feeds) (rw c.deref.ensures.value at c.next_of-self.ensures);
      fair = keeps.fair;
      ordered = c.advance-2.ensures.ordered keeps.ordered;
    }

pub returns-clause-room : goal.returns-clause-room
returns-clause-room c number release due room = record {
  fits = room.fits;
  roomy = roomy_by (IsAdvancedTo c.args.moment) (names_in due) _ _ c.advance-2.ensures.each (λ f g r. r.advanced.delivery.name) (λ f g r. r.advanced.fits) room.roomy;
  waiting = omega (arith, room.waiting, c.advance.ensures.len, c.advance.ensures.capacity);
}
