use Rattle.std.proofs.Common.{sym, ap, ◌∙◌}
use Rattle.publish_queue.specs.declared.ask.FeedFacts.{FeedFacts}
use Rattle.news_types.proofs.Subscribed.{listed_is}
use Rattle.newsroom.proofs.Telling.{feed_absent, feed_there, feed_unknown, feed_told}
use Rattle.newsroom.proofs.newsroom.Newsroom.ask_feed.Goals as goal

pub returns-in_default : goal.returns-in_default
returns-in_default c h frame stands =
    feed_unknown h c.args.subscriber.now c.args.after (feed_absent h c.args.subscriber.now c.feed_facts.result _ (c.feed_facts.ensures h stands.stories) c.in_default.is)

pub returns : goal.returns
returns c h frame stands =
    let there = feed_there h c.args.subscriber.now c.feed_facts.result _ c.in-Some.facts (c.feed_facts.ensures h stands.stories) c.in-Some.is in
    let long = ap (λ (f : FeedFacts). f.length) there.1 in
    feed_told h c.args.subscriber.now c.args.after c.in-Some.facts.length c.in_ok-entries.entries (sym (listed_is h c.args.subscriber.now) ∙ there.0) long (c.in_ok-entries.ensures h stands.stories there.0 long)
