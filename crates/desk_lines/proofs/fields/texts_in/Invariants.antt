use Rattle.std.proofs.Common.{◌≡◌, ◌≤◌, drop, length, All}
use Rattle.serde_json.specs.View.{items_view}
use Rattle.desk_lines.specs.Forms.{all_of, text}
use Rattle.desk_lines.proofs.Fronts.{add_front}
use Rattle.desk_lines.proofs.fields.texts_in.Given as goal

abbrev pub invariant-loop-value : goal.invariant-loop-value
invariant-loop-value l = record {
  rest : add_front l.texts.items (all_of (text l.limit) (items_view (drop l.value-index l.list.items))) ≡ all_of (text l.limit) (items_view l.list.items);
  count : length l.texts.items ≡ l.value-index;
  short : All (λ text. length text ≤ l.limit) l.texts.items;
}
