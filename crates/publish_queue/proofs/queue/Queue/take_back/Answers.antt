use Rattle.std.proofs.Common.{◌≡◌, false, map, sym, ap, ◌∙◌}
use Rattle.publish_queue.specs.Many.{IsWithdrawnBy, names_in}
use Rattle.publish_queue.specs.Keeps.{Facts, IsFeed, IsUntouched, release_of}
use Rattle.news_types.specs.Names.{Bytes, is_in}
use Rattle.news_types.specs.Due.{taken_back}
use Rattle.publish_queue.proofs.Many.{roomy_by}
use Rattle.publish_queue.proofs.InTurn.{ordered_same}
use Rattle.publish_queue.proofs.Comings.{next_known}
use Rattle.publish_queue.proofs.AllFeeds.{feeds_go, is_feed_spanned, have_waiting, subscribed_still}
use Rattle.publish_queue.proofs.Withdrawal.{taken_leaves, untouched_left, own_waiting_taken, fair_taken}
use Rattle.publish_queue.proofs.queue.Queue.take_back.Goals as goal

pub returns-clause-keeps : goal.returns-clause-keeps
returns-clause-keeps c known i keeps are within =
    let numbers = c.args.numbers.now in
    let spans = c.args.spans.now in
    let ps = known.publications in
    let m = known.moment in
    let news = c.withdraw_all.new.self in
    let qs = taken_back m i ps in
    let left : Facts = record known { publications = qs } in
    let feeds = feeds_go (IsWithdrawnBy numbers spans) (IsFeed known) (IsFeed left) _ news.feeds.items c.withdraw_all.ensures.each
    (λ f g is r. is_feed_spanned known numbers spans qs f g (taken_leaves m i numbers f.name ps keeps.fair are) within is r) keeps.feeds in
    let others : (s : Bytes) → is_in s known.names ≡ false → IsUntouched left s = λ s none. untouched_left known numbers qs s (taken_leaves m i numbers s ps keeps.fair are) (keeps.others s none) in
    let subscribed = subscribed_still _ _ known.names c.withdraw_all.ensures.names keeps.subscribed in
    let waits = keeps.waits ∙ ap (map release_of) (sym (own_waiting_taken m i ps)) in
    let fair = fair_taken m i ps keeps.fair in
    record {
      at = keeps.at;
      subscribed = subscribed;
      feeds = feeds;
      others = others;
      waits = waits;
      next = next_known known.names news.names.items qs m _ _ _ fair (λ s none. (others s none).due) news.named subscribed waits (have_waiting left _ feeds) (rw c.deref.ensures.value at c.next_of-self.ensures);
      fair = fair;
      ordered = ordered_same _ _ _ _ c.withdraw_all.ensures.turns c.withdraw_all.ensures.each.long (λ k d lt. (c.withdraw_all.ensures.each.each k d lt).delivery.name) (λ k d lt. (c.withdraw_all.ensures.each.each k d lt).turn) keeps.ordered;
    }

pub returns-clause-room : goal.returns-clause-room
returns-clause-room c number release due room = record {
  fits = room.fits;
  roomy = roomy_by (IsWithdrawnBy c.args.numbers.now c.args.spans.now) (names_in due) _ _ c.withdraw_all.ensures.each (λ f g r. r.delivery.name) (λ f g r. r.fits) room.roomy;
  waiting = room.waiting;
}
