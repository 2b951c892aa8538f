use Rattle.std.proofs.Common.{◌≡◌, max, ap, ◌∙◌, arith}
use Rattle.std.specs.Prelude.{nat_lt}
use Rattle.std.proofs.lemmas.Bool.Decides.{nat_tests}
use Rattle.publish_queue.proofs.AllFeeds.{feed_at, keeps_delivered, set_as, set_if, set_same}
use Rattle.publish_queue.proofs.queue.Queue.receipt.Goals as goal

pub returns-in-Some-clause-keeps : goal.returns-in-Some-clause-keeps
returns-in-Some-clause-keeps c known keeps there above =
    let s = c.args.subscriber.now in
    let f = c.index.result.now in
    let found = c.in-Some.ensures.found in
    let feed = feed_at known c.args.self.now.feeds c.in-Some.at s f found c.index.ensures keeps.feeds in
    let tried_is : f.delivery.tried ≡ known.tried s = feed.1.stands.last ∙ ap known.tried feed.0 in
    keeps_delivered _ s known _ _ _ _ _ _ (set_as s _ known.acked (λ t. max c.args.n (known.acked t)) (omega (arith, above))) (set_if s known.tries (λ t. nat_lt (known.acked t) c.args.n) (grind (arith, nat_tests, above))) (set_same s _ known.tried tried_is)
    (c.deliver.ensures.keeps known s keeps found.1)
