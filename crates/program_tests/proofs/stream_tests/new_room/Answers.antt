use mathlib.Core.Bool.{false, false≢true}
use Rattle.program_tests.proofs.stream_tests.new_room.Goals as goal

pub returns : goal.returns
returns g c =
    let o = c.in-Ok.ensures in
    (_, o.stands false (λ e. absurd (false≢true e)))
