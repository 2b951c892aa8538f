use Rattle.std.proofs.Common.{◌≡◌, ◌<◌, ◌^◌, drop}
use Rattle.serde_json.specs.View.{items_view}
use Rattle.desk_lines.specs.Forms.{bits_from}
use Rattle.desk_lines.proofs.forms.bits_of.Given as goal

abbrev pub invariant-loop-value : goal.invariant-loop-value
invariant-loop-value g l = record {
  rest : bits_from g.B.Bits.words l.bits (items_view (drop l.value-index l.list.items)) ≡ bits_from g.B.Bits.words 0 (items_view l.list.items);
  bound : l.bits < 2 ^ g.B.Bits.width;
}
