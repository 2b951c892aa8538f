use Rattle.std.proofs.Common.{◌-◌}
use Rattle.item_table.specs.Rows.{set_to}
use Rattle.item_table.proofs.Members.{set_changed, past_changed, numbered_changed}
use Rattle.item_table.proofs.row.set.Goals as goal

pub returns-in-Some : goal.returns-in-Some
returns-in-Some c =
    let h = c.in-Some.ensures.item in
    let rows = c.args.rows.now.items in
    let set = set_to c.args.to in
    rw c.set_row.ensures (numbered_changed c.args.item set rows _ c.if-item-eq0.false (set_changed rows (c.args.item - 1) c.in-Some.row.now set h.3.0 h.3.1))

pub returns-in_default : goal.returns-in_default
returns-in_default c =
    let rows = c.args.rows.now.items in
    numbered_changed c.args.item _ rows _ c.if-item-eq0.false (past_changed rows (c.args.item - 1) _ c.in_default.ensures.item.3)
