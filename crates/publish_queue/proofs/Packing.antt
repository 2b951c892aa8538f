-- A release that waits, as one word.
use Rattle.std.proofs.Common.{◌≡◌, ◌-◌, ◌%◌, true, refl, arith}
use Rattle.publish_queue.specs.declared.release.Awaited.{Awaited}
use Rattle.publish_queue.specs.Rows.{awaited_moment, withdrawn, emptied}

-- ---- withdrawn, it keeps its moment

pub moment_emptied : (w : Awaited) → awaited_moment (emptied w) ≡ awaited_moment w
unfolding awaited_moment emptied
moment_emptied w = omega arith

pub withdrawn_emptied : (w : Awaited) → withdrawn (emptied w) ≡ true
unfolding withdrawn emptied
withdrawn_emptied w =
    let none : (w.bits - w.bits % 67108864) % 67108864 ≡ 0 = omega arith in
    rw none refl
