use Rattle.std.proofs.Common.{◌≡◌, true, sym, ap, ◌∙◌}
use Rattle.std.specs.Prelude.{slice_get, map}
use Rattle.news_types.specs.Names.{is_in}
use Rattle.news_types.specs.Feeds.{feed_of}
use Rattle.publish_queue.specs.Keeps.{number_of}
use Rattle.publish_queue.proofs.ByName.{present}
use Rattle.publish_queue.proofs.AllFeeds.{feed_at, entry_at}
use Rattle.publish_queue.proofs.queue.Queue.number.Goals as goal

pub returns : goal.returns
returns c known keeps =
    let s = c.args.subscriber.now in
    let fs = c.args.self.now.feeds in
    let f = c.index.result.now in
    let entries = feed_of known.publications known.moment s in
    let found = c.in_ok-at.ensures.found in
    let there : is_in s known.names ≡ true = sym (keeps.subscribed s) ∙ present s fs.names.items c.in_ok-at.at s found.0 (found.1 s) in
    let feed = feed_at known fs c.in_ok-at.at s f found c.index.ensures keeps.feeds in
    let row : f.row.numbers.items ≡ map number_of entries = feed.1.rows.row.numbers ∙ ap (λ t. map number_of (feed_of known.publications known.moment t)) feed.0 in
    let index = c.in_ok-index.field-0 in
    rw there (c.number_at.ensures ∙ ap (λ xs. slice_get xs index) row ∙ entry_at entries c.args.k index c.in_ok-index.ensures.0 c.in_ok-index.ensures.1)
