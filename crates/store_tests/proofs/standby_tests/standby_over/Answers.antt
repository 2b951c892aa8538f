use Rattle.std.proofs.Common.{[]}
use mathlib.Core.Bool.{false, false≢true}
use Rattle.store_tests.proofs.standby_tests.standby_over.Goals as goal

pub returns : goal.returns
returns g c =
    let o = c.in-Ok.ensures.opened in
    (_, o.holds false [] tt (λ e. absurd (false≢true e)))
