use Rattle.std.proofs.Common.{◌≡◌, ◌+◌, sym, ap, ◌∙◌, arith, drop, get_or}
use Rattle.std.proofs.lemmas.List.{drop_more, drop_all}
use Rattle.serde_json.specs.Data.{Data, object, item}
use Rattle.serde_json.specs.View.{view, items_view}
use Rattle.told_objects.specs.Members.{objects}
use Rattle.told_objects.proofs.Listed.{items_then, then_pushed, then_none, plain_pushed}
use Rattle.told_objects.proofs.told.objects.Goals as goal

pub loop-row-preserved : goal.loop-row-preserved
loop-row-preserved g c =
    let inv = c.loop-row.invariant in
    let xs = c.loop-row.list.items in
    let v = c.into_value.result in
    let i = c.loop-row.row-index in
    let rows = c.args.rows.now in
    let r = c.row-item.result in
    let at = drop_more rows i r c.loop-row-test.true in
    let is : view v ≡ object (g.T.Shown.members (get_or rows i r)) = c.into_value.ensures.value ∙ ap object (c.in_ok-shown.ensures ∙ ap g.T.Shown.members c.row-item.is) in
    record {
      rows = rw c.in_ok-push.ensures.items (then_pushed xs v (objects g.T.Shown.members (drop (i + 1) rows))
          ∙ ap (items_then (items_view xs)) (ap (λ (d : Data). item d (objects g.T.Shown.members (drop (i + 1) rows))) is ∙ sym (ap (objects g.T.Shown.members) at))
          ∙ inv.rows);
      plain = rw c.in_ok-push.ensures.items (plain_pushed xs v inv.plain c.into_value.ensures.plain);
    }

pub returns-clause-rows : goal.returns-clause-rows
returns-clause-rows g c =
    let inv = c.loop-row.invariant in
    sym (then_none (items_view c.loop-row.list.items))
    ∙ ap (λ rest. items_then (items_view c.loop-row.list.items) (objects g.T.Shown.members rest)) (sym (drop_all c.loop-row.row-index c.args.rows.now (omega (arith, c.loop-row-test.false))))
    ∙ inv.rows
