use Rattle.std.proofs.Common.{◌≡◌, [], ◌∷◌, ◌++◌, sym, ap, ◌∙◌}
use Rattle.serde_json.specs.Data.{no_items, item, object}
use Rattle.serde_json.specs.View.{view, items_view}
use Rattle.told_objects.specs.Seen.{seen}
use Rattle.told_objects.proofs.Listed.{items_then, then_pushed, then_none, plain_pushed, objects_more}
use Rattle.told_objects.proofs.told.values.Goals as goal

pub loop-row-preserved : goal.loop-row-preserved
loop-row-preserved c =
    let inv = c.loop-row.invariant in
    let xs = c.loop-row.list.items in
    let v = c.into_value.result in
    let row = c.in-Some.row in
    let is : view v ≡ object (seen row) = c.into_value.ensures.value in
    let before = inv.rows in
    record {
      rows = ap items_view c.in_ok-push.ensures.items
          ∙ sym (then_none (items_view (xs ++ v ∷ [])))
          ∙ then_pushed xs v no_items
          ∙ (λ k. items_then (before k) (item (is k) no_items))
          ∙ sym (objects_more seen c.loop-row.yielded row);
      plain = rw c.in_ok-push.ensures.items (plain_pushed xs v inv.plain c.into_value.ensures.plain);
    }
