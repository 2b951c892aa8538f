use Rattle.std.proofs.Common.{◌≡◌, true, sym, ◌∙◌}
use Rattle.news_types.specs.Names.{is_in}
use Rattle.publish_queue.proofs.ByName.{present}
use Rattle.publish_queue.proofs.AllFeeds.{feed_at}
use Rattle.publish_queue.proofs.Choosing.{later_is}
use Rattle.publish_queue.proofs.queue.Queue.later_moment.Goals as goal

pub returns : goal.returns
returns c known keeps =
    let s = c.args.name.now in
    let fs = c.args.self.now.feeds in
    let found = c.in_ok-at.ensures.found in
    let there : is_in s known.names ≡ true = sym (keeps.subscribed s) ∙ present s fs.names.items c.in_ok-at.at s found.0 (found.1 s) in
    let feed = feed_at known fs c.in_ok-at.at s c.index.result.now found c.index.ensures keeps.feeds in
    c.later_moment.ensures ∙ later_is known s c.index.result.now there feed.0 feed.1
