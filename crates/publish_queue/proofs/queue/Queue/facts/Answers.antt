use Rattle.std.proofs.Common.{◌≡◌, ℕ, suc, true, List, arith, [], ◌∷◌, Option, length, refl, sym, ap, ◌∙◌}
use Rattle.std.specs.Prelude.{map, is_some, nat_lt}
use Rattle.std.proofs.lemmas.List.{length-map}
use Rattle.std.proofs.lemmas.Bool.Decides.{nat_tests}
use Rattle.news_types.specs.Names.{is_in}
use Rattle.news_types.specs.Feeds.{Dispatch, feed_of, waiting_of}
use Rattle.publish_queue.specs.Rows.{live, next_in}
use Rattle.publish_queue.specs.Keeps.{number_of, release_of}
use Rattle.publish_queue.proofs.ByName.{present}
use Rattle.publish_queue.proofs.AllFeeds.{feed_at}
use Rattle.publish_queue.proofs.queue.Queue.facts.Goals as goal

some_next : (o : Option ℕ) (l : List Dispatch) → o ≡ next_in (map release_of l) → is_some o ≡ nat_lt 0 (length l)
some_next o [] is = rw is refl
some_next o (d ∷ ds) is = let yes : nat_lt 0 (suc (length ds)) ≡ true = grind (arith, nat_tests) in rw is (sym yes)

pub returns : goal.returns
returns c known keeps =
    let s = c.args.subscriber.now in
    let fs = c.args.self.now.feeds in
    let ps = known.publications in
    let m = known.moment in
    let f = c.index-feed.result.now in
    let found = c.in_ok-at.ensures.found in
    let there : is_in s known.names ≡ true = sym (keeps.subscribed s) ∙ present s fs.names.items c.in_ok-at.at s found.0 (found.1 s) in
    let feed = feed_at known fs c.in_ok-at.at s f found c.index-feed.ensures keeps.feeds in
    let row : f.row.numbers.items ≡ map number_of (feed_of ps m s) = feed.1.rows.row.numbers ∙ ap (λ t. map number_of (feed_of ps m t)) feed.0 in
    let waits : live f.waiting.releases.items ≡ map release_of (waiting_of ps m s) = feed.1.rows.waiting ∙ ap (λ t. map release_of (waiting_of ps m t)) feed.0 in
    let length_is : c.len.result ≡ length (feed_of ps m s) = c.len.ensures ∙ f.row.numbers.ok.0 ∙ ap length row ∙ length-map (feed_of ps m s) number_of in
    let waits_are = c.is_some.ensures ∙ some_next c.next.result (waiting_of ps m s) (c.next.ensures ∙ ap next_in waits) in
    let acked_is : f.delivery.acked ≡ known.acked s = feed.1.stands.receipt ∙ ap known.acked feed.0 in
    let tries_are : f.delivery.tries ≡ known.tries s = feed.1.stands.attempts ∙ ap known.tries feed.0 in
    rw (there, length_is, waits_are, acked_is, tries_are) refl
