use Rattle.std.proofs.Common.{◌≡◌, refl, ap, ◌∙◌}
use Rattle.publish_queue.proofs.AllFeeds.{feed_at, keeps_delivered, set_same}
use Rattle.publish_queue.proofs.queue.Queue.resume.Goals as goal

pub returns-in-Some-clause-keeps : goal.returns-in-Some-clause-keeps
returns-in-Some-clause-keeps c known keeps there =
    let s = c.args.subscriber.now in
    let f = c.index.result.now in
    let found = c.in-Some.ensures.found in
    let feed = feed_at known c.args.self.now.feeds c.in-Some.at s f found c.index.ensures keeps.feeds in
    let acked_is : f.delivery.acked ≡ known.acked s = feed.1.stands.receipt ∙ ap known.acked feed.0 in
    let tried_is : f.delivery.tried ≡ known.tried s = feed.1.stands.last ∙ ap known.tried feed.0 in
    keeps_delivered _ s known _ _ _ _ _ _ (set_same s _ known.acked (c.resumed-delivery.ensures.acked ∙ acked_is)) (λ t. rw c.resumed-delivery.ensures.tries refl) (set_same s _ known.tried (c.resumed-delivery.ensures.tried ∙ tried_is))
    (c.deliver.ensures.keeps known s keeps found.1)
