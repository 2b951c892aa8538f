use Rattle.std.proofs.Common.{◌≡◌, ◌++◌, length, take}
use Rattle.std.specs.Prelude.{All}
use Rattle.std.specs.List.{flat_map}
use Rattle.byte_formats.specs.Spelling.{u16}
use Rattle.entry_codec.proofs.field.put_list.Given as goal

abbrev pub invariant-loop-item : goal.invariant-loop-item
invariant-loop-item g l = record {
  bytes : l.out.items ≡ (l.fn.out.items ++ u16 (length l.items)) ++ flat_map g.T.Field.format.spell (take l.item-index l.items);
  form : All g.T.Field.formed (take l.item-index l.items);
}
