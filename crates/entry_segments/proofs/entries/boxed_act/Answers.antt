use Rattle.std.proofs.Common.{arith}
use Rattle.byte_formats.proofs.Boxed.{free_lengths}
use Rattle.entry_segments.proofs.entries.boxed_act.Goals as goal

pub overflow_add-result : goal.overflow_add-result
overflow_add-result c =
    let lengths = free_lengths _ _ _ _ c.in_ok-block.ensures.bytes in
    let inside = c.act_within.ensures.within c.in-Err-Left.left (rw c.in-Err-Left.field-0-is at c.in-Err-Left.is) in
    omega (arith, lengths, inside, c.left.ensures, c.left-all.ensures)
