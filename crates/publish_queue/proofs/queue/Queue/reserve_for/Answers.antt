use Rattle.std.proofs.Common.{ap, ◌∙◌}
use Rattle.publish_queue.specs.Rows.{live}
use Rattle.publish_queue.specs.Many.{IsSame}
use Rattle.publish_queue.specs.Keeps.{IsFeed}
use Rattle.publish_queue.proofs.InTurn.{ordered_same}
use Rattle.publish_queue.proofs.AllFeeds.{on_ok, feeds_go, is_feed_same, subscribed_still}
use Rattle.publish_queue.proofs.queue.Queue.reserve_for.Goals as goal

pub returns-clause-keeps : goal.returns-clause-keeps
returns-clause-keeps c known keeps = record {
  at = keeps.at;
  subscribed = subscribed_still _ _ known.names c.reserve_for.ensures.names keeps.subscribed;
  feeds = feeds_go IsSame (IsFeed known) (IsFeed known) _ _ c.reserve_for.ensures.alike (λ f g is r. is_feed_same known f g is r) keeps.feeds;
  others = keeps.others;
  waits = ap live c.reserve.ensures.releases ∙ keeps.waits;
  next = keeps.next;
  fair = keeps.fair;
  ordered = ordered_same _ _ _ _ c.reserve_for.ensures.turns c.reserve_for.ensures.alike.long (λ k d lt. (c.reserve_for.ensures.alike.each k d lt).alike.delivery.name) (λ k d lt. (c.reserve_for.ensures.alike.each k d lt).turn) keeps.ordered;
}

pub returns-clause-ok : goal.returns-clause-ok
returns-clause-ok c = on_ok c.reserve_for.result c.reserve_for.ensures.ok (λ roomy. record {
  fits = c.fit_places.ensures c.if-not-fit_places.false;
  roomy = roomy;
  waiting = c.in_ok-reserve.ensures.ok;
})
