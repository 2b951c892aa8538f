use Rattle.std.proofs.Common.{sym, ◌∙◌}
use Rattle.news_types.specs.Products.{subscriber}
use Rattle.news_types.specs.Feeds.{feed}
use Rattle.news_types.proofs.Subscribed.{listed_is}
use Rattle.feed_frames.specs.Writer.{the_writer}
use Rattle.newsroom.specs.Stands.{store_of}
use Rattle.newsroom.proofs.Framing.{no_format, no_entry, frame_told, has_format}
use Rattle.newsroom.proofs.newsroom.Newsroom.frame.Goals as goal

pub unreachable-requires : goal.unreachable-requires
unreachable-requires c =
    let h = c.requires.0 in
    let s = c.args.subscriber.now in
    no_format (subscriber h s) (sym (c.format.ensures h c.requires.1.0.rules) ∙ c.in_default.is) c.requires.1.1

pub unreachable-requires-in_default-publication : goal.unreachable-requires-in_default-publication
unreachable-requires-in_default-publication c =
    let h = c.requires.0 in
    let s = c.args.subscriber.now in
    no_entry (feed h s) c.args.k c.requires.1.2 c.requires.1.3 (sym c.in_default-publication.is ∙ c.in_ok-publication.ensures h c.requires.1.0.stories (listed_is h s ∙ c.requires.1.1))

pub returns : goal.returns
returns c h stands =
    let s = c.args.subscriber.now in
    let formatted = sym (c.format.ensures h stands.rules) ∙ c.in-Some.is in
    frame_told (the_writer (store_of c.args.self.now)) h s c.args.k c.in-Some.format c.in-Some-publication.publication c.in_ok-bytes.bytes formatted
    (sym c.in-Some-publication.is ∙ c.in_ok-publication.ensures h stands.stories (listed_is h s ∙ has_format (subscriber h s) c.in-Some.format formatted)) c.in_ok-bytes.ensures
