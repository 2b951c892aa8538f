use Rattle.std.proofs.Common.{◌∙◌, arith, length, ap, sym}
use Rattle.byte_formats.proofs.Varints.{top_nine, varint_is}
use Rattle.entry_segments.proofs.told.varint_len.Goals as goal

pub returns-clause-len : goal.returns-clause-len
returns-clause-len c = c.groups_len.ensures.len 9 (omega (arith, top_nine, c.ranges.number.fits)) ∙ ap length (sym (varint_is c.args.number))
