use Rattle.std.proofs.Common.{◌≡◌, false, [], ◌∷◌, ap, ◌∙◌, arith}
use Rattle.news_types.specs.Names.{Bytes, is_in}
use Rattle.publish_queue.specs.Rows.{is_between, without}
use Rattle.publish_queue.specs.Many.{IsWithdrawnBy, names_in}
use Rattle.publish_queue.specs.Keeps.{Facts, IsFeed, IsUntouched}
use Rattle.publish_queue.specs.Withdrawn.{without_number}
use Rattle.publish_queue.proofs.Many.{roomy_by}
use Rattle.publish_queue.proofs.InTurn.{ordered_same}
use Rattle.publish_queue.proofs.Comings.{next_known}
use Rattle.publish_queue.proofs.AllFeeds.{feeds_go, is_feed_spanned, have_waiting, subscribed_still}
use Rattle.publish_queue.proofs.Spanned.{own_numbers}
use Rattle.publish_queue.proofs.Withdrawal.{without_leaves, untouched_left, own_waiting_without, releases_left, fair_without}
use Rattle.publish_queue.proofs.queue.Queue.withdraw.Goals as goal

pub returns-clause-keeps : goal.returns-clause-keeps
returns-clause-keeps c known keeps late has within =
    let n = c.args.number in
    let spans = c.args.spans.now in
    let ps = known.publications in
    let m = known.moment in
    let news = c.withdraw_all.new.self in
    let qs = without_number n ps in
    let left : Facts = record known { publications = qs } in
    let feeds = feeds_go (IsWithdrawnBy (n ∷ []) spans) (IsFeed known) (IsFeed left) _ news.feeds.items c.withdraw_all.ensures.each
    (λ f g is r. is_feed_spanned known (n ∷ []) spans qs f g (without_leaves m n f.name ps keeps.fair late) within is r) keeps.feeds in
    let others : (s : Bytes) → is_in s known.names ≡ false → IsUntouched left s = λ s none. untouched_left known (n ∷ []) qs s (without_leaves m n s ps keeps.fair late) (keeps.others s none) in
    let subscribed = subscribed_still _ _ known.names c.withdraw_all.ensures.names keeps.subscribed in
    let waits = c.remove.ensures.releases ∙ ap (without (is_between (n ∷ []) c.args.release c.args.release)) keeps.waits ∙ own_numbers m n c.args.release ps has ∙ rw (own_waiting_without m n ps) (releases_left (n ∷ []) _) in
    let fair = fair_without n ps keeps.fair in
    record {
      at = keeps.at;
      subscribed = subscribed;
      feeds = feeds;
      others = others;
      waits = waits;
      next = next_known known.names news.names.items qs m _ _ _ fair (λ s none. (others s none).due) news.named subscribed waits (have_waiting left _ feeds) (rw c.deref.ensures.value at c.next_of-self.ensures);
      fair = fair;
      ordered = ordered_same _ _ _ _ c.withdraw_all.ensures.turns c.withdraw_all.ensures.each.long (λ k d lt. (c.withdraw_all.ensures.each.each k d lt).delivery.name) (λ k d lt. (c.withdraw_all.ensures.each.each k d lt).turn) keeps.ordered;
    }

pub returns-clause-room : goal.returns-clause-room
returns-clause-room c number release due room = record {
  fits = room.fits;
  roomy = roomy_by (IsWithdrawnBy (c.args.number ∷ []) c.args.spans.now) (names_in due) _ _ c.withdraw_all.ensures.each (λ f g r. r.delivery.name) (λ f g r. r.fits) room.roomy;
  waiting = omega (arith, room.waiting, c.remove.ensures.len, c.remove.ensures.capacity);
}
