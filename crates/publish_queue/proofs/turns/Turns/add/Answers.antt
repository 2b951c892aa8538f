use Rattle.std.proofs.Common.{◌≡◌, ◌≤◌, ◌<◌, length, sym, ◌∙◌, arith}
use mathlib.Core.Bool.{true≢false}
use Rattle.std.specs.List.{insert}
use Rattle.std.proofs.lemmas.List.Edits.{length-insert}
use Rattle.publish_queue.proofs.Ascending.{searchable, present, equal_is, ascends_insert, in_insert}
use Rattle.publish_queue.proofs.TurnOrder.{turns_order}
use Rattle.publish_queue.proofs.Putting.{put_in}
use Rattle.publish_queue.proofs.turns.Turns.add.Goals as goal

pub returns-in-Err-clause-turns : goal.returns-in-Err-clause-turns
returns-in-Err-clause-turns c up none spare =
    let items = c.args.self.now.turns.items in
    let turn = c.args.turn in
    let at = c.in-Err.at in
    let position = rw c.deref.ensures.value at c.in-Err.ensures.position in
    let within : at ≤ length items = rw c.deref.ensures.value at c.in-Err.ensures.bound in
    let point = position (searchable turns_order items turn up) in
    let are : c.insert.new.self.items ≡ insert items at turn = put_in c.insert.result _ _ _ c.insert.ensures.items c.insert.ensures.full (omega (arith, spare)) in
    rw are (record {
      ascends = ascends_insert turns_order turn items at up within point.0 point.1;
      member = λ t. in_insert turns_order t turn items at;
      long = length-insert items at turn within;
    })

pub returns-in_default-clause-turns : goal.returns-in_default-clause-turns
returns-in_default-clause-turns c up none spare =
    let items = c.args.self.now.turns.items in
    let turn = c.args.turn in
    let at = c.in_default.field-0 in
    let ok = rw c.deref.ensures.value at c.in_default.ensures.ok in
    let within : at < length items = rw c.deref.ensures.value at c.in_default.ensures.bound in
    absurd (true≢false (sym (present turns_order turn items at turn within (equal_is turns_order _ turn (ok turn))) ∙ none))
