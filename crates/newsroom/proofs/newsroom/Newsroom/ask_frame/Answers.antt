use Rattle.std.proofs.Common.{◌≤◌, sym, subst, ap, ◌∙◌}
use Rattle.news_types.specs.Frames.{frame_bytes_at}
use Rattle.news_types.proofs.Subscribed.{listed_is}
use Rattle.publish_queue.specs.declared.ask.FeedFacts.{FeedFacts}
use Rattle.feed_frames.specs.Writer.{the_writer}
use Rattle.newsroom.specs.Stands.{store_of}
use Rattle.newsroom.proofs.Telling.{feed_absent, feed_there}
use Rattle.newsroom.proofs.Framing.{frame_unknown, frame_there, frame_beyond, entry_within}
use Rattle.newsroom.proofs.newsroom.Newsroom.ask_frame.Goals as goal

pub frame-requires : goal.frame-requires
frame-requires c =
    let h = c.requires.0 in
    let stands = c.requires.1.0 in
    let s = c.args.subscriber.now in
    let there = feed_there h s c.feed_facts.result _ c.in-Some.facts (c.feed_facts.ensures h stands.stories) c.in-Some.is in
    let within = entry_within c.args.k c.in-Some.facts.length (sym c.is_entry.ensures ∙ c.if-is_entry.true) in
    (h, (stands, sym (listed_is h s) ∙ there.0, within.0, subst (λ n. c.args.k ≤ n) (ap (λ (f : FeedFacts). f.length) there.1) within.1))

pub returns-in_default : goal.returns-in_default
returns-in_default c h stands =
    frame_unknown h c.args.subscriber.now _ (feed_absent h c.args.subscriber.now c.feed_facts.result _ (c.feed_facts.ensures h stands.stories) c.in_default.is)

pub returns-then-is_entry : goal.returns-then-is_entry
returns-then-is_entry c h stands =
    let s = c.args.subscriber.now in
    let there = feed_there h s c.feed_facts.result _ c.in-Some.facts (c.feed_facts.ensures h stands.stories) c.in-Some.is in
    frame_there (frame_bytes_at (the_writer (store_of c.args.self.now)) h) h s c.args.k c.in-Some.facts.length (sym (listed_is h s) ∙ there.0) (ap (λ (f : FeedFacts). f.length) there.1)
    c.in_ok-frame.frame (sym c.is_entry.ensures ∙ c.if-is_entry.true) (c.in_ok-frame.ensures h stands)

pub returns : goal.returns
returns c h stands =
    let s = c.args.subscriber.now in
    let there = feed_there h s c.feed_facts.result _ c.in-Some.facts (c.feed_facts.ensures h stands.stories) c.in-Some.is in
    frame_beyond (frame_bytes_at (the_writer (store_of c.args.self.now)) h) h s c.args.k c.in-Some.facts.length (sym (listed_is h s) ∙ there.0) (ap (λ (f : FeedFacts). f.length) there.1)
    (sym c.is_entry.ensures ∙ c.if-is_entry.false)
