use Rattle.std.proofs.Common.{◌≡◌, false, [], ◌∷◌, map, sym, ap, subst, ◌∙◌}
use Rattle.std.specs.Cmp.Lexicographic.{nat_list_eq_equiv}
use Rattle.news_types.specs.Names.{Bytes, is_in}
use Rattle.news_types.proofs.Members.{same_is}
use Rattle.publish_queue.specs.Rows.{is_between}
use Rattle.publish_queue.specs.Steps.{IsWithdrawn}
use Rattle.publish_queue.specs.Many.{names_in}
use Rattle.publish_queue.specs.Keeps.{Facts, IsFeed, IsUntouched, release_of}
use Rattle.publish_queue.specs.Withdrawn.{withdrawn_for, HasReleaseTo}
use Rattle.publish_queue.proofs.Many.{roomy_by}
use Rattle.publish_queue.proofs.InTurn.{ordered_same}
use Rattle.publish_queue.proofs.Comings.{next_known}
use Rattle.publish_queue.proofs.AllFeeds.{feeds_one, is_feed_withdrawn, is_feed_kept, have_waiting, subscribed_still}
use Rattle.publish_queue.proofs.Spanned.{number_withdrawn}
use Rattle.publish_queue.proofs.Withdrawal.{HasStayed, stayed, for_leaves, for_others, untouched_for, own_waiting_for, fair_for}
use Rattle.publish_queue.proofs.queue.Queue.withdraw_for.Goals as goal

pub returns-clause-keeps : goal.returns-clause-keeps
returns-clause-keeps c known keeps late has =
    let n = c.args.number in
    let s = c.args.subscriber.now in
    let old = c.args.self.now.feeds in
    let ps = known.publications in
    let m = known.moment in
    let news = c.withdraw_one.new.self in
    let qs = withdrawn_for s n ps in
    let left : Facts = record known { publications = qs } in
    let gone = is_between (n ∷ []) c.args.release c.args.release in
    let feeds = feeds_one (IsWithdrawn gone) (IsFeed known) (IsFeed left) s _ news.feeds.items c.withdraw_one.ensures.goes
    (λ f g here is r. is_feed_withdrawn known (n ∷ []) qs f g (for_leaves m n s f.name ps (nat_list_eq_equiv.symm s f.name ∙ here) late) is
    (number_withdrawn m n c.args.release ps f g (subst (λ t. HasReleaseTo t n c.args.release ps) (sym (same_is f.name s here)) has) is.rows r))
    (λ f there is. is_feed_kept known qs f (for_others n s f.name ps (nat_list_eq_equiv.symm s f.name ∙ there)) is) keeps.feeds in
    let others : (t : Bytes) → is_in t known.names ≡ false → IsUntouched left t = λ t none. untouched_for known n s t late (keeps.others t none) in
    let subscribed = subscribed_still _ _ known.names c.withdraw_one.ensures.names keeps.subscribed in
    let waits = keeps.waits ∙ ap (map release_of) (sym (own_waiting_for m n s ps)) in
    let fair = fair_for s n ps keeps.fair in
    let each = stayed gone s old.feeds.items news.feeds.items c.withdraw_one.ensures.goes in
    record {
      at = keeps.at;
      subscribed = subscribed;
      feeds = feeds;
      others = others;
      waits = waits;
      next = next_known known.names news.names.items qs m _ _ _ fair (λ t none. (others t none).due) news.named subscribed waits (have_waiting left _ feeds) (rw c.deref.ensures.value at c.next_of-self.ensures);
      fair = fair;
      ordered = ordered_same _ _ _ _ c.withdraw_one.ensures.turns each.long (λ k d lt. (each.each k d lt).name) (λ k d lt. (each.each k d lt).turn) keeps.ordered;
    }

pub returns-clause-room : goal.returns-clause-room
returns-clause-room c number release due room =
    let each = stayed (is_between (c.args.number ∷ []) c.args.release c.args.release) c.args.subscriber.now _ _ c.withdraw_one.ensures.goes in
    record {
      fits = room.fits;
      roomy = roomy_by HasStayed (names_in due) _ _ each (λ f g r. r.name) (λ f g r. r.fits) room.roomy;
      waiting = room.waiting;
    }
