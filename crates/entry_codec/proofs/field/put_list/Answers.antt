use Rattle.std.proofs.Common.{◌++◌, subst, length}
use Rattle.std.proofs.lemmas.List.Elements.{All-more}
use Rattle.byte_formats.specs.Spelling.{u16}
use Rattle.entry_codec.proofs.Appends.{item_written}
use Rattle.entry_codec.proofs.field.put_list.Goals as goal

pub loop-item-preserved : goal.loop-item-preserved
loop-item-preserved g c = record {
  bytes =
      item_written g.T.Field.format.spell (c.args.out.now.items ++ u16 (length c.args.items.now)) c.args.items.now c.loop-item.item-index c.item-item.result
      c.loop-item.out.items c.put.new.out.items c.loop-item-test.true c.item-item.is c.loop-item.invariant.bytes c.in_ok-put.ensures.bytes;
  form =
      All-more g.T.Field.formed c.args.items.now c.loop-item.item-index c.item-item.result c.loop-item-test.true c.loop-item.invariant.form
      (subst g.T.Field.formed c.item-item.is c.in_ok-put.ensures.form);
}
