use Rattle.std.proofs.Common.{sym, ◌∙◌, arith}
use Rattle.news_types.specs.Products.{is_subscriber}
use Rattle.story_tables.proofs.Publishing.{all_over, all_hit}
use Rattle.story_tables.proofs.stories.Stories.has_feeds.Goals as goal

pub returns-then-not-has_feed : goal.returns-then-not-has_feed
returns-then-not-has_feed c h keeps =
    all_hit (is_subscriber h) c.args.subscribers.now c.loop-name.name-index c.name-item.result (omega arith) c.name-item.is (sym (c.has_feed.ensures h keeps) ∙ c.if-not-has_feed.true)
    ∙ c.loop-name.invariant h keeps

pub loop-name-preserved : goal.loop-name-preserved
loop-name-preserved c h keeps =
    all_over (is_subscriber h) c.args.subscribers.now c.loop-name.name-index c.name-item.result (omega arith) c.name-item.is (sym (c.has_feed.ensures h keeps) ∙ c.if-not-has_feed.false)
    ∙ c.loop-name.invariant h keeps
