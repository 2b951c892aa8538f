use Rattle.std.proofs.Common.{◌+◌, sym, ap, ◌∙◌, arith, drop, get_or}
use Rattle.std.proofs.lemmas.List.{drop_more, drop_all}
use Rattle.serde_json.specs.Data.{string, item, no_items}
use Rattle.news_types.specs.Names.{Bytes}
use Rattle.told_entries.specs.Members.{strings}
use Rattle.told_entries.specs.Seen.{seen_items, items_then}
use Rattle.told_entries.proofs.Behind.{then_none, more_then}
use Rattle.told_entries.proofs.listed.texts.Goals as goal

pub loop-row-preserved : goal.loop-row-preserved
loop-row-preserved c =
    let before = seen_items c.loop-row.list in
    let i = c.loop-row.row-index in
    let rows = c.args.rows.now in
    let r = c.row-item.result in
    more_then before (string (get_or rows i r)) _ (strings (drop (i + 1) rows))
    (c.in_ok-list.ensures ∙ ap (λ (t : Bytes). items_then before (item (string t) no_items)) (c.as_str.ensures ∙ c.row-item.is))
    ∙ ap (λ rest. items_then before (strings rest)) (sym (drop_more rows i r c.loop-row-test.true)) ∙ c.loop-row.invariant

pub returns : goal.returns
returns c =
    let before = seen_items c.loop-row.list in
    sym (then_none before)
    ∙ ap (λ rest. items_then before (strings rest)) (sym (drop_all c.loop-row.row-index c.args.rows.now (omega (arith, c.loop-row-test.false)))) ∙ c.loop-row.invariant
