use Rattle.std.proofs.Common.{ℕ, arith, ap, length, length-append}
use Rattle.byte_formats.proofs.Names.{name_parts}
use Rattle.feed_receiver.proofs.receipt.receipt_line.Goals as goal

pub push_slice-requires-4 : goal.push_slice-requires-4
push_slice-requires-4 c =
    (omega arith, omega (arith, (name_parts c.args.name.now c.as_bytes.ensures.form).1, ap length c.as_bytes.ensures.bytes, ap length c.push_slice.ensures, ap length c.push_slice-2.ensures, ap length c.push_slice-3.ensures, c.push_decimal.ensures.few, ap length c.new-line.ensures, length-append {A = ℕ}))
