use Rattle.std.proofs.Common.{◌≡◌, ◌≤◌, ◌+◌, length, vec_capacity, refl, ◌∙◌, arith}
use Rattle.std.specs.List.{insert}
use Rattle.std.proofs.lemmas.List.Edits.{length-insert}
use Rattle.publish_queue.proofs.Putting.{put_in}
use Rattle.publish_queue.proofs.AllFeeds.{ordered_insert, map_insert}
use Rattle.publish_queue.proofs.queue.Feeds.add_subscriber.Goals as goal

pub invariant_of-self-clause-ascends : goal.invariant_of-self-clause-ascends
invariant_of-self-clause-ascends c =
    let fs = c.args.self.now in
    let names_are : c.insert.new.self.items ≡ insert fs.names.items c.in-Some.at c.args.name = put_in c.insert.result _ _ _ c.insert.ensures.items c.insert.ensures.full (omega (arith, c.requires.names)) in
    rw names_are (rw c.deref.ensures.value at c.in-Some.ensures.place fs.ascends)

pub invariant_of-self-clause-named : goal.invariant_of-self-clause-named
invariant_of-self-clause-named c =
    let at = c.in-Some.at in
    let fs = c.args.self.now in
    let names_are : c.insert.new.self.items ≡ insert fs.names.items at c.args.name = put_in c.insert.result _ _ _ c.insert.ensures.items c.insert.ensures.full (omega (arith, c.requires.names)) in
    let feeds_are : c.insert-2.new.self.items ≡ insert fs.feeds.items at c.new.result = put_in c.insert-2.result _ _ _ c.insert-2.ensures.items c.insert-2.ensures.full (omega (arith, c.requires.feeds)) in
    rw (names_are, feeds_are) (map_insert fs.feeds.items at c.new.result ∙ rw (fs.named, c.new.ensures.name) refl)

pub returns : goal.returns
returns c apart =
    let at = c.in-Some.at in
    let fs = c.args.self.now in
    let names_are : c.insert.new.self.items ≡ insert fs.names.items at c.args.name = put_in c.insert.result _ _ _ c.insert.ensures.items c.insert.ensures.full (omega (arith, c.requires.names)) in
    let feeds_are : c.insert-2.new.self.items ≡ insert fs.feeds.items at c.new.result = put_in c.insert-2.result _ _ _ c.insert-2.ensures.items c.insert-2.ensures.full (omega (arith, c.requires.feeds)) in
    let within : at ≤ length fs.feeds.items = omega (arith, c.in-Some.ensures.within, c.deref.ensures.len, fs.paired, fs.feeds.ok.0) in
    let long : length (insert fs.feeds.items at c.new.result) ≡ length fs.feeds.items + 1 = length-insert fs.feeds.items at c.new.result within in
    let room : length (insert fs.feeds.items at c.new.result) ≤ vec_capacity fs.turns.turns = omega (arith, long, c.requires.turns, fs.feeds.ok.0) in
    record {
      at = at;
      feed = c.new.result;
      empty = c.new.ensures;
      names = names_are;
      feeds = feeds_are;
      ordered = λ o. rw feeds_are (ordered_insert fs.feeds.items fs.turns at c.new.result c.new.ensures.turn (rw (c.new.ensures.name, fs.named) apart) room o);
    }
