use mathlib.Core.Bool.{false, false≢true}
use Rattle.store_tests.proofs.room_tests.room_over.Goals as goal

pub returns : goal.returns
returns g c =
    let o = c.in-Ok.ensures in
    (_, o.stands false (λ e. absurd (false≢true e)))
