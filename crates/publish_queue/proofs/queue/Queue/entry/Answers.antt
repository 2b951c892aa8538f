use Rattle.std.proofs.Common.{◌≡◌, false, [], sym, ap, subst, ◌∙◌}
use Rattle.std.specs.Prelude.{map}
use Rattle.std.specs.List.{filter}
use Rattle.news_types.specs.Names.{is_in}
use Rattle.news_types.specs.Feeds.{feed_of, is_out}
use Rattle.publish_queue.specs.Steps.{HasEntries}
use Rattle.publish_queue.specs.Keeps.{number_of, moment_of}
use Rattle.publish_queue.proofs.AllFeeds.{feed_at}
use Rattle.publish_queue.proofs.Found.{feed_row, none_in_empty}
use Rattle.publish_queue.proofs.queue.Queue.entry.Goals as goal

pub returns-in_err-at : goal.returns-in_err-at
returns-in_err-at c known keeps newest =
    let s = c.args.subscriber.now in
    let none : is_in s known.names ≡ false = sym (keeps.subscribed s) ∙ c.in_err-at.ensures.found in
    let empty : feed_of known.publications known.moment s ≡ [] = ap (filter (is_out known.moment)) ((keeps.others s none).due) in
    rw (c.from_residual.ensures, empty) (none_in_empty c.args.number c.args.release)

pub returns-in_err-k : goal.returns-in_err-k
returns-in_err-k c known keeps newest =
    let s = c.args.subscriber.now in
    let ps = known.publications in
    let m = known.moment in
    let fs = c.args.self.now.feeds in
    let f = c.index.result.now in
    let feed = feed_at known fs c.in_ok-at.at s f c.in_ok-at.ensures.found c.index.ensures keeps.feeds in
    let are = subst (λ t. HasEntries f.row (map number_of (feed_of ps m t)) (map moment_of (feed_of ps m t))) feed.0 feed.1.rows.row in
    rw c.from_residual-in_err-k.ensures (rw c.in_err-k.was at c.entry.ensures.found (feed_of ps m s) are (feed_row ps m s newest))

pub returns : goal.returns
returns c known keeps newest =
    let s = c.args.subscriber.now in
    let ps = known.publications in
    let m = known.moment in
    let fs = c.args.self.now.feeds in
    let f = c.index.result.now in
    let feed = feed_at known fs c.in_ok-at.at s f c.in_ok-at.ensures.found c.index.ensures keeps.feeds in
    let are = subst (λ t. HasEntries f.row (map number_of (feed_of ps m t)) (map moment_of (feed_of ps m t))) feed.0 feed.1.rows.row in
    rw c.in_ok-k.was at c.entry.ensures.found (feed_of ps m s) are (feed_row ps m s newest)
