use Rattle.std.proofs.Common.{◌≡◌, drop, length, All}
use Rattle.serde_json.specs.View.{items_view}
use Rattle.desk_lines.specs.Reading.{read_each}
use Rattle.desk_lines.proofs.Fronts.{add_read}
use Rattle.desk_lines.proofs.objects.listed_in.Given as goal

abbrev pub invariant-loop-value : goal.invariant-loop-value
invariant-loop-value g l = record {
  rest : add_read l.found.items (read_each g.T.Listed.says (items_view (drop l.value-index l.list.items))) ≡ read_each g.T.Listed.says (items_view l.list.items);
  count : length l.found.items ≡ l.value-index;
  fits : All g.T.Listed.fits l.found.items;
}
