use Rattle.std.proofs.Common.{sym, ◌∙◌, length, ◌<◌}
use mathlib.Core.Bool.{true≢false}
use Rattle.publish_queue.proofs.Ascending.{searchable, absent, equal_is, ascends_remove, in_remove, in_without, length_remove}
use Rattle.publish_queue.proofs.TurnOrder.{turns_order}
use Rattle.publish_queue.proofs.turns.Turns.remove.Goals as goal

pub returns-in-Ok-clause-turns : goal.returns-in-Ok-clause-turns
returns-in-Ok-clause-turns c up =
    let items = c.args.self.now.turns.items in
    let at = c.in-Ok.at in
    let turn = c.args.turn in
    let ok = rw c.deref.ensures.value at c.in-Ok.ensures.ok in
    let within : at < length items = rw c.deref.ensures.value at c.in-Ok.ensures.bound in
    rw c.remove.ensures.items (record {
      ascends = ascends_remove turns_order items at up;
      member = λ t. in_remove turns_order t turn items at turn up within (equal_is turns_order _ turn (ok turn));
      long = λ there. length_remove items at within;
    })

pub returns-in_default-clause-turns : goal.returns-in_default-clause-turns
returns-in_default-clause-turns c up =
    let items = c.args.self.now.turns.items in
    let turn = c.args.turn in
    let position = rw c.deref.ensures.value at c.in_default.ensures.position in
    let point = position (searchable turns_order items turn up) in
    let none = absent turns_order turn items _ point.0 point.1 in
    record {
      ascends = up;
      member = λ t. in_without turns_order t turn items none;
      long = λ there. absurd (true≢false (sym there ∙ none));
    }
