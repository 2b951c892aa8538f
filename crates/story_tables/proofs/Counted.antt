-- What the tables' lengths say of the list.
use Rattle.std.proofs.Common.{◌≡◌, length, ap, ◌∙◌}
use Rattle.std.proofs.lemmas.List.{length-map}
use Rattle.news_types.specs.History.{History}
use Rattle.news_types.specs.Publications.{made, item_count}
use Rattle.item_table.specs.declared.table.Items.{Items}
use Rattle.item_table.specs.Keeps.{KeepsFacts as KeepsItems}
use Rattle.item_table.specs.Rows.{row_of}

pub items_counted : (t : Items) (h : History) → KeepsItems t h → length t.rows.items ≡ item_count h
items_counted t h keeps = ap length keeps.rows ∙ length-map ((made h).items) row_of
