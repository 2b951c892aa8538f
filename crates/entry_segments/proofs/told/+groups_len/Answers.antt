use Rattle.std.proofs.Common.{arith, length, ap}
use Rattle.byte_formats.proofs.Varints.{top_nine, varint_is, varint_short}
use Rattle.entry_segments.proofs.Fronts.{groups_len_big}
use Rattle.entry_segments.proofs.told.+groups_len.Goals as goal

pub returns-clause-len : goal.returns-clause-len
returns-clause-len t c = λ more lt. groups_len_big c.args.number more c.groups_len.result c.if-number-lt128.false c.groups_len.ensures.len lt

pub returns-clause-few : goal.returns-clause-few
returns-clause-few t c =
    let n = c.args.number in
    let h = groups_len_big n 9 c.groups_len.result c.if-number-lt128.false c.groups_len.ensures.len (omega (arith, top_nine, c.ranges.number.fits)) in
    omega (arith, h, ap length (varint_is n), varint_short n)
