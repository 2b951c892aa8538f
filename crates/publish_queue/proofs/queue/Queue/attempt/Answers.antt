use Rattle.std.proofs.Common.{◌≡◌, ◌+◌, ◌<◌, refl, ap, ◌∙◌, arith}
use Rattle.std.specs.Prelude.{slice_get}
use Rattle.news_types.specs.Feeds.{feed_of}
use Rattle.publish_queue.proofs.AllFeeds.{feed_at, keeps_delivered, set_as, set_same, few_tries}
use Rattle.publish_queue.proofs.queue.Queue.attempt.Goals as goal

pub returns-in-Some-clause-keeps : goal.returns-in-Some-clause-keeps
returns-in-Some-clause-keeps c known keeps there ready =
    let s = c.args.subscriber.now in
    let f = c.index.result.now in
    let found = c.in-Some.ensures.found in
    let feed = feed_at known c.args.self.now.feeds c.in-Some.at s f found c.index.ensures keeps.feeds in
    let acked_is : f.delivery.acked ≡ known.acked s = feed.1.stands.receipt ∙ ap known.acked feed.0 in
    let tries_are : f.delivery.tries ≡ known.tries s = feed.1.stands.attempts ∙ ap known.tries feed.0 in
    let few : known.tries s < 10 = few_tries (slice_get (feed_of known.publications known.moment s) (known.acked s)) (known.tries s) (known.tried s) c.args.moment ready in
    let one_more : known.tries s + 1 ≡ c.saturating_add.result = grind (arith, c.saturating_add.ensures, tries_are, few) in
    keeps_delivered _ s known _ _ _ _ _ _ (set_same s _ known.acked acked_is) (set_as s _ known.tries (λ t. known.tries t + 1) one_more) (λ t. refl) (c.deliver.ensures.keeps known s keeps found.1)
