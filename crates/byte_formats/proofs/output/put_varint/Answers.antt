use Rattle.std.proofs.Common.{arith, ◌++◌, ap, sym, ◌∙◌}
use Rattle.byte_formats.proofs.Varints.{varint_is, top_nine}
use Rattle.byte_formats.proofs.output.put_varint.Goals as goal

pub returns : goal.returns
returns c = c.in_ok-put_groups.ensures 9 (omega (arith, top_nine)) ∙ ap (λ z. c.args.out.now.items ++ z) (sym (varint_is c.args.number))
