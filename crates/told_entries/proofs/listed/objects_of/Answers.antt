use Rattle.std.proofs.Common.{◌≡◌, ◌+◌, sym, ap, ◌∙◌, arith, drop, get_or}
use Rattle.std.proofs.lemmas.List.{drop_more, drop_all}
use Rattle.serde_json.specs.Data.{Data, object, item, no_items}
use Rattle.serde_json.specs.View.{view}
use Rattle.told_objects.specs.Members.{objects}
use Rattle.told_entries.specs.Seen.{seen_items, items_then}
use Rattle.told_entries.proofs.Behind.{then_none, more_then}
use Rattle.told_entries.proofs.listed.objects_of.Goals as goal

pub loop-row-preserved : goal.loop-row-preserved
loop-row-preserved g c =
    let members_of = g.T.Shown.members in
    let before = seen_items c.loop-row.list in
    let i = c.loop-row.row-index in
    let rows = c.args.rows.now in
    let r = c.row-item.result in
    let row : view c.into_value.result ≡ object (members_of (get_or rows i r)) = c.into_value.ensures.value ∙ ap object (c.in_ok-shown.ensures ∙ ap members_of c.row-item.is) in
    let listed : seen_items c.in_ok-list.list ≡ items_then before (item (object (members_of (get_or rows i r))) no_items) = c.in_ok-list.ensures ∙ ap (λ (d : Data). items_then before (item d no_items)) row in
    more_then before (object (members_of (get_or rows i r))) (seen_items c.in_ok-list.list) (objects members_of (drop (i + 1) rows)) listed
    ∙ ap (λ rest. items_then before (objects members_of rest)) (sym (drop_more rows i r c.loop-row-test.true)) ∙ c.loop-row.invariant

pub returns : goal.returns
returns g c =
    let before = seen_items c.loop-row.list in
    sym (then_none before)
    ∙ ap (λ rest. items_then before (objects g.T.Shown.members rest)) (sym (drop_all c.loop-row.row-index c.args.rows.now (omega (arith, c.loop-row-test.false)))) ∙ c.loop-row.invariant
