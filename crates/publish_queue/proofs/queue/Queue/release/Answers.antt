use Rattle.std.proofs.Common.{◌≡◌, ℕ, zero, suc, ◌-◌, ◌≤◌, true, List, sym, ap, ◌∙◌, arith}
use Rattle.std.specs.Prelude.{slice_get, map}
use Rattle.std.specs.Option.{option_map}
use Rattle.news_types.specs.Names.{is_in}
use Rattle.news_types.specs.Feeds.{Dispatch, feed_of}
use Rattle.news_types.specs.Frames.{numbered}
use Rattle.publish_queue.specs.Keeps.{moment_of}
use Rattle.publish_queue.proofs.ByName.{present}
use Rattle.publish_queue.proofs.Entries.{get_map}
use Rattle.publish_queue.proofs.AllFeeds.{feed_at}
use Rattle.publish_queue.proofs.queue.Queue.release.Goals as goal

-- entries are counted from 1
release_at : (ps : List Dispatch) (k i : ℕ) → 1 ≤ k → i ≡ k - 1 → slice_get (map moment_of ps) i ≡ option_map moment_of (numbered ps k)
release_at ps zero i le is = absurd (omega (arith, le))
release_at ps (suc k) i le is = let e : i ≡ k = omega (arith, is) in rw e (get_map moment_of ps k)

pub returns : goal.returns
returns c known keeps =
    let s = c.args.subscriber.now in
    let fs = c.args.self.now.feeds in
    let f = c.index.result.now in
    let entries = feed_of known.publications known.moment s in
    let found = c.in_ok-at.ensures.found in
    let there : is_in s known.names ≡ true = sym (keeps.subscribed s) ∙ present s fs.names.items c.in_ok-at.at s found.0 (found.1 s) in
    let feed = feed_at known fs c.in_ok-at.at s f found c.index.ensures keeps.feeds in
    let row : f.row.releases.items ≡ map moment_of entries = feed.1.rows.row.releases ∙ ap (λ t. map moment_of (feed_of known.publications known.moment t)) feed.0 in
    let index = c.in_ok-index.field-0 in
    rw there (c.release_at.ensures ∙ ap (λ xs. slice_get xs index) row ∙ release_at entries c.args.k index c.in_ok-index.ensures.0 c.in_ok-index.ensures.1)
