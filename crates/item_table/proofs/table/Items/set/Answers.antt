use Rattle.std.proofs.Common.{map, sym, ap, ◌∙◌}
use Rattle.item_table.specs.Rows.{set_to, row_of}
use Rattle.item_table.proofs.Members.{rows_set}
use Rattle.item_table.proofs.Known.{known_changed}
use Rattle.news_types.specs.Items.{known}
use Rattle.item_table.proofs.table.Items.set.Goals as goal

pub returns : goal.returns
returns c before after keeps sets =
    record {
      rows = c.set.ensures ∙ rw keeps.rows (rows_set (set_to c.args.to) sets.change c.args.item before sets.row) ∙ ap (map row_of) (sym sets.behind);
      numbers = λ p t. keeps.numbers p t ∙ sym (known_changed p t sets.change c.args.item before (λ it there. sets.called it there p t)) ∙ ap (known p t) (sym sets.behind);
    }
