use Rattle.std.proofs.Common.{◌≡◌, drop, length}
use Rattle.serde_json.specs.View.{items_view}
use Rattle.desk_lines.specs.Forms.{all_of, name}
use Rattle.desk_lines.proofs.Fronts.{add_front}
use Rattle.desk_lines.proofs.fields.names_in.Given as goal

abbrev pub invariant-loop-value : goal.invariant-loop-value
invariant-loop-value l = record {
  rest : add_front l.names.items (all_of name (items_view (drop l.value-index l.list.items))) ≡ all_of name (items_view l.list.items);
  count : length l.names.items ≡ l.value-index;
}
