use Rattle.std.proofs.Common.{◌≡◌, ◌<◌, length, get_or, sym, ◌∙◌, arith}
use Rattle.publish_queue.specs.Many.{turn_in}
use Rattle.publish_queue.proofs.Many.{sets}
use Rattle.publish_queue.proofs.InTurn.{names_kept, in_order, turn_was, ordered_set, ordered_room, row_turn_alike}
use Rattle.publish_queue.proofs.queue.Feeds.settle_at.Goals as goal

pub returns-clause-sets : goal.returns-clause-sets
returns-clause-sets c = sets _ _ _ c.index_mut-feed.result.now c.set_turn.new.self (omega (arith, c.args.self.now.feeds.ok.0, c.requires)) c.index_mut-feed.ensures.value (record {
  alike = c.set_turn.ensures.alike;
  turn = c.set_turn.ensures.turn ∙ c.ready_at-turn.ensures ∙ sym (row_turn_alike _ _ c.set_turn.ensures.alike);
  fits = c.set_turn.ensures.fits;
})

pub invariant_of-self-clause-named : goal.invariant_of-self-clause-named
invariant_of-self-clause-named c = names_kept _ _ c.index_mut-feed.result.now c.set_turn.new.self c.index_mut-feed.ensures.value c.set_turn.ensures.alike.delivery.name ∙ c.args.self.now.named

pub returns-clause-ordered : goal.returns-clause-ordered
returns-clause-ordered c o =
    let old = c.args.self.now in
    let fs = old.feeds.items in
    let f = c.index_mut-feed.result.now in
    let is : f ≡ get_or fs c.args.at f = c.index_mut-feed.ensures.value in
    let within : c.args.at < length fs = omega (arith, old.feeds.ok.0, c.requires) in
    let up = in_order old in
    let was = turn_was fs c.args.at f up within is in
    let room = ordered_room fs old.turns c.args.at f within is o in
    ordered_set fs old.turns c.change.new.self c.args.at f c.set_turn.new.self c.ready_at-turn.result up within is c.set_turn.ensures.alike.delivery.name c.set_turn.ensures.turn
    (c.change.ensures.holds (turn_in fs) o.holds was room) (c.change.ensures.len (turn_in fs) o.holds was room) c.change.ensures.capacity o
