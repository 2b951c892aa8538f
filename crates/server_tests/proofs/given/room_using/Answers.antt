use mathlib.Core.Bool.{false, false≢true}
use Rattle.server_tests.proofs.given.room_using.Goals as goal

pub returns : goal.returns
returns g c =
    let o = c.in-Ok.ensures in
    (_, o.stands false (λ e. absurd (false≢true e)))
