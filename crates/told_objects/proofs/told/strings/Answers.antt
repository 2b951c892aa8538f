use Rattle.std.proofs.Common.{◌≡◌, ◌+◌, false, sym, ap, ◌∙◌, arith, drop, get_or}
use Rattle.std.proofs.lemmas.List.{drop_more, drop_all}
use Rattle.serde_json.specs.Data.{Data, string, item}
use Rattle.serde_json.specs.View.{view, items_view}
use Rattle.serde_json.specs.Written.{has_float}
use Rattle.told_objects.specs.Members.{strings}
use Rattle.told_objects.proofs.Listed.{items_then, then_pushed, then_none, plain_pushed}
use Rattle.told_objects.proofs.told.strings.Goals as goal

pub loop-text-preserved : goal.loop-text-preserved
loop-text-preserved g c =
    let inv = c.loop-text.invariant in
    let xs = c.loop-text.list.items in
    let v = c.in_ok-try_from_str.field-0 in
    let i = c.loop-text.text-index in
    let texts = c.args.texts.now in
    let t = c.text-item.result in
    let at = drop_more texts i t c.loop-text-test.true in
    let spelled : view v ≡ string c.spelled.result.now = c.in_ok-try_from_str.ensures in
    let is : view v ≡ string (g.T.Spelled.text_of (get_or texts i t)) = spelled ∙ ap string (c.spelled.ensures ∙ ap g.T.Spelled.text_of c.text-item.is) in
    record {
      rows = rw c.in_ok-push.ensures.items (then_pushed xs v (strings g.T.Spelled.text_of (drop (i + 1) texts))
          ∙ ap (items_then (items_view xs)) (ap (λ (d : Data). item d (strings g.T.Spelled.text_of (drop (i + 1) texts))) is ∙ sym (ap (strings g.T.Spelled.text_of) at))
          ∙ inv.rows);
      plain = rw c.in_ok-push.ensures.items (plain_pushed xs v inv.plain (ap has_float spelled));
    }

pub returns-clause-rows : goal.returns-clause-rows
returns-clause-rows g c =
    let inv = c.loop-text.invariant in
    sym (then_none (items_view c.loop-text.list.items))
    ∙ ap (λ rest. items_then (items_view c.loop-text.list.items) (strings g.T.Spelled.text_of rest)) (sym (drop_all c.loop-text.text-index c.args.texts.now (omega (arith, c.loop-text-test.false))))
    ∙ inv.rows
